-- What the exports leave in lent memory (docs/C-INTERFACE.md, "Layouts in lent bytes"): a refused call changes nothing, record j stands at byte 64 × j and is the list's
-- record j, and the entry number that a step leaves in a walk is read back whole.
-- Assumes nothing.
use Rattle.std.specs.Prelude.{ℕ, ◌+◌, ◌*◌, ◌/◌, ◌≤◌, ◌<◌, ◌≡◌, List, length, take, drop}
use Rattle.layout.specs.declared.Entry.{Entry}
use Rattle.layout.specs.Bytes.{part, refusal}
use Rattle.layout.specs.Calls.{Told, told_refusal}
use Rattle.records.specs.Packed.{packed}
use Rattle.records.specs.Words.{record_bytes}
use Rattle.records.specs.Exports.{entry_call, list_call, write_call, edit_call, add_call, remove_call, walk_format, walk_edition, walk_entry, step_call}
use Rattle.promises.specs.Words.{IsRefused, Item, Lists, tells_list, tells_entry}
use Rattle.promises.specs.Lookups.{given}
use Rattle.answers.specs.Whole.{number_of}

-- ---- refused

-- C sees that the call is refused
abbrev pub RefusedAnswer : ℕ → Type 0
RefusedAnswer answer = number_of answer ≡ 0 → ⊥

pub record UnchangedLent : Type 0 where
  pub entry : (f e : ℕ) (img : List ℕ) (n : ℕ) (m : List ℕ) → RefusedAnswer (entry_call f e img n m).answer → (entry_call f e img n m).memory ≡ m
  pub listed : (f e : ℕ) (img m : List ℕ) → RefusedAnswer (list_call f e img m).answer → (list_call f e img m).memory ≡ m
  pub stepped : (w img m : List ℕ) → RefusedAnswer (step_call w img m).answer → ((step_call w img m).walk ≡ w) × ((step_call w img m).memory ≡ m)
  pub written : (f e : ℕ) (fields values out : List ℕ) → RefusedAnswer (write_call f e fields values out).answer → (write_call f e fields values out).memory ≡ out
  pub edited : (f e : ℕ) (img : List ℕ) (n : ℕ) (value out : List ℕ) → RefusedAnswer (edit_call f e img n value out).answer → (edit_call f e img n value out).memory ≡ out
  pub added : (f e : ℕ) (img field values out : List ℕ) → RefusedAnswer (add_call f e img field values out).answer → (add_call f e img field values out).memory ≡ out
  pub removed : (f e : ℕ) (img : List ℕ) (n : ℕ) (out : List ℕ) → RefusedAnswer (remove_call f e img n out).answer → (remove_call f e img n out).memory ≡ out

-- ---- the list

-- the list export answers as the list call does that is lent so many records, and leaves its records, 64 bytes each; bytes beyond them stay
pub record ListLent (f e : ℕ) (img m : List ℕ) : Type 0 where
  pub answers : (records : List Entry) → length records ≡ length m / 64 → (list_call f e img m).answer ≡ packed (tells_list f e img records)
  pub stands : (entries : List Entry) → Lists f e img entries → length entries * 64 ≤ length m → (j : ℕ) (x : Entry) → Item entries j x →
      part (j * 64) 64 (list_call f e img m).memory ≡ record_bytes e x
  pub beyond : (entries : List Entry) → Lists f e img entries → length entries * 64 ≤ length m →
      drop (length entries * 64) (list_call f e img m).memory ≡ drop (length entries * 64) m

-- ---- one record

-- what an export of one record answers, where the entry tells t: the same; but 12 at 0, after every other refusal, where less than one record is lent
pub record Answers (t : Told) (m : List ℕ) (answer : ℕ) : Type 0 where
  pub whole : 64 ≤ length m → answer ≡ packed t
  pub refused : IsRefused t → answer ≡ packed t
  pub short : (x : Entry) → length m < 64 → t ≡ given x → answer ≡ packed (told_refusal (refusal 12 0))

-- the entry export answers as entry n, and leaves its record in the first 64 bytes
pub record EntryLent (f e : ℕ) (img : List ℕ) (n : ℕ) (m : List ℕ) : Type 0 where
  pub answers : Answers (tells_entry f e img n) m (entry_call f e img n m).answer
  pub stands : (x : Entry) → 64 ≤ length m → tells_entry f e img n ≡ given x →
      (take 64 (entry_call f e img n m).memory ≡ record_bytes e x) × (drop 64 (entry_call f e img n m).memory ≡ drop 64 m)

-- a step answers as entry n of the walk's own format, edition and number. Where it is not refused the walk's number is one more, read back from its bytes, and all else in the
-- walk is as it was
pub record StepLent (w img m : List ℕ) : Type 0 where
  pub answers : Answers (tells_entry (walk_format w) (walk_edition w) img (walk_entry w)) m (step_call w img m).answer
  pub stands : (x : Entry) → 64 ≤ length m → tells_entry (walk_format w) (walk_edition w) img (walk_entry w) ≡ given x →
      (take 64 (step_call w img m).memory ≡ record_bytes (walk_edition w) x) × (drop 64 (step_call w img m).memory ≡ drop 64 m)
  pub onward : number_of (step_call w img m).answer ≡ 0 →
      (walk_format (step_call w img m).walk ≡ walk_format w) × (walk_edition (step_call w img m).walk ≡ walk_edition w)
      × (walk_entry (step_call w img m).walk ≡ walk_entry w + 1) × (drop 16 (step_call w img m).walk ≡ drop 16 w)

pub record Lent : Type 0 where
  pub unchanged : UnchangedLent
  pub listed : (f e : ℕ) (img m : List ℕ) → ListLent f e img m
  pub entry : (f e : ℕ) (img : List ℕ) (n : ℕ) (m : List ℕ) → EntryLent f e img n m
  pub stepped : (w img m : List ℕ) → StepLent w img m
