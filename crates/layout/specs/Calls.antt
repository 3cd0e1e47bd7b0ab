-- The calls that read: check, list, entry n, value of entry n, string, and the walk's step (01, "What the package reads and writes").
-- Assumes nothing.
use Rattle.std.specs.Prelude.{ℕ, zero, suc, ◌+◌, ◌/◌, ◌%◌, List, [], ◌∷◌, ◌++◌, Bool, true, false, length, drop, ltb, leb, eqb, Ok, Err}
use Rattle.layout.specs.declared.Part.{Part}
use Rattle.layout.specs.declared.Reading.{Reading}
use Rattle.layout.specs.declared.Reading.TheVariants.{Plain, Text, Number, Addresses, Numbered, Tests, Identified, Batched, Dated, Timed}
use Rattle.layout.specs.declared.Entry.{Entry}
use Rattle.layout.specs.declared.Refusal.{Refusal}
use Rattle.layout.specs.Answers.{Checked, Lookup, Located}
use Rattle.layout.specs.Bytes.{if, part, place, part_at, refusal}
use Rattle.layout.specs.Shape.{Shape}
use Rattle.layout.specs.Editions.{shape, names, kind}
use Rattle.layout.specs.Walk.{Raw, content}
use Rattle.layout.specs.Read.{Read, accepted, refused, read_image}

-- ---- entries

-- the key's part of a record: without a key it has length 0 and stands at the value's place
abbrev pub key_part : Bool → ℕ → Raw → Part
key_part true p r = part_at (p + r.frame.key) r.frame.klen
key_part false p r = part_at (p + r.frame.val) 0

-- what the value of an entry of this code means in an edition. Kind 0 always has plain bytes
abbrev pub reading_by : Shape → ℕ → ℕ → List ℕ → Reading
reading_by S e c value = if (names S e c) (λ _. S.reading c value) (λ _. Plain)

-- the record of an entry whose first byte stands at p
unfoldable pub entry_of : Shape → ℕ → ℕ → Raw → Entry
entry_of S e p r =
    record {
      code = r.frame.code;
      kind = kind S e r.frame.code;
      place = place p;
      size = r.frame.size;
      key = key_part S.keyed p r;
      value = part_at (p + r.frame.val) r.frame.vlen;
      reading = reading_by S e r.frame.code (content r).value;
    }

-- one record for each entry, in image order
unfoldable pub entries_of : Shape → ℕ → ℕ → List Raw → List Entry
entries_of S e p [] = []
entries_of S e p (r ∷ rs) = entry_of S e p r ∷ entries_of S e (p + r.frame.size) rs

-- 01's term "list": the records of an accepted image; of a refused one there are none
abbrev pub entries_by : Read → ℕ → List Entry
entries_by (accepted f start rs) e = entries_of (shape f) e start rs
entries_by (refused r) e = []

unfoldable pub entries_in : ℕ → ℕ → List ℕ → List Entry
entries_in f e img = entries_by (read_image f e img) e

-- ---- check

abbrev pub checked_by : Read → Checked
checked_by (accepted f start rs) = Ok (length rs)
checked_by (refused r) = Err r

unfoldable pub check_image : ℕ → ℕ → List ℕ → Checked
check_image f e img = checked_by (read_image f e img)

-- ---- list

-- the answer of a list, and what the lent records then are
pub record Listed : Type 0 where
  pub answer : Checked
  pub records : List Entry

-- the entries take the place of the first records, and those beyond stay; 12 where there are too few
abbrev pub fill : List Entry → List Entry → Listed
fill es records =
    if (leb (length es) (length records))
    (λ _. record { answer = Ok (length es); records = es ++ drop (length es) records })
    (λ _. record { answer = Err (refusal 12 0); records = records })

abbrev pub listed_by : Read → ℕ → List Entry → Listed
listed_by (accepted f start rs) e records = fill (entries_of (shape f) e start rs) records
listed_by (refused r) e records = record { answer = Err r; records = records }

unfoldable pub list_entries : ℕ → ℕ → List ℕ → List Entry → Listed
list_entries f e img records = listed_by (read_image f e img) e records

-- ---- entry n

-- entries count from 0
unfoldable pub nth : List Entry → ℕ → Lookup
nth [] n = Err (refusal 13 0)
nth (x ∷ xs) zero = Ok x
nth (x ∷ xs) (suc n) = nth xs n

abbrev pub found_by : Read → ℕ → ℕ → Lookup
found_by (accepted f start rs) e n = nth (entries_of (shape f) e start rs) n
found_by (refused r) e n = Err r

unfoldable pub entry_at : ℕ → ℕ → List ℕ → ℕ → Lookup
entry_at f e img n = found_by (read_image f e img) e n

-- ---- a part of the image, and its twin

-- the bytes of the part that a call gives; a refusal gives an empty part
abbrev pub bytes_at : List ℕ → Located → List ℕ
bytes_at img (Ok x) = part x.place.0 x.len img
bytes_at img (Err r) = []

-- number and place of the same call: 0 and 0 where nothing is refused
abbrev pub verdict : Located → Refusal
verdict (Ok x) = refusal 0 0
verdict (Err r) = r

-- ---- value of entry n

abbrev pub value_of : Lookup → Located
value_of (Ok x) = Ok x.value
value_of (Err r) = Err r

unfoldable pub value_at : ℕ → ℕ → List ℕ → ℕ → Located
value_at f e img n = value_of (entry_at f e img n)

-- ---- the walk

-- the entry number of the walk that a step hands back: moved on by one, or as it was where the step is refused
abbrev pub moved : ℕ → Lookup → ℕ
moved n (Ok x) = n + 1
moved n (Err r) = n

-- the answer of a step, and the entry number of the walk that is handed back
pub record Step : Type 0 where
  pub answer : Lookup
  pub next : ℕ

-- a step of a walk that holds this format, this edition and this entry number answers as entry n on the image lent to it
unfoldable pub step_from : ℕ → ℕ → ℕ → List ℕ → Step
step_from f e n img = record { answer = entry_at f e img n; next = moved n (entry_at f e img n) }

-- ---- Tiny strings

-- 15: no pool, or no such string
abbrev pub no_string : Located
no_string = Err (refusal 15 0)

-- the string of this number in bytes of a pool, where a string begins at p and n of its bytes were passed.
-- A string ends with the first byte whose top bit is on; an unfinished tail is no string
unfoldable pub string_in : List ℕ → ℕ → ℕ → ℕ → Located
string_in [] p n number = no_string
string_in (b ∷ bs) p n zero = if (ltb b 128) (λ _. string_in bs p (n + 1) zero) (λ _. Ok (part_at p (n + 1)))
string_in (b ∷ bs) p n (suc number) = if (ltb b 128) (λ _. string_in bs p (n + 1) (suc number)) (λ _. string_in bs (p + n + 1) 0 number)

-- the same in the pool, which is the entry of code 01h; the first entry stands at p
unfoldable pub pool_string : ℕ → List Raw → ℕ → Located
pool_string p [] number = no_string
pool_string p (r ∷ rs) number =
    if (eqb r.frame.code 0x01)
    (λ _. string_in (content r).value (p + r.frame.val) 0 number)
    (λ _. pool_string (p + r.frame.size) rs number)

abbrev pub string_by : Read → ℕ → Located
string_by (accepted f start rs) number = pool_string start rs number
string_by (refused r) number = Err r

-- 16 for any format but 3, then as any image, then 15
unfoldable pub string_at : ℕ → ℕ → List ℕ → ℕ → Located
string_at f e img number = if (eqb f 3) (λ _. string_by (read_image f e img) number) (λ _. Err (refusal 16 0))

-- ---- what an answer says

-- a reading's number, and the numbers that it carries: 0 plain bytes, 1 text, 2 number, 3 address block (the base's high 16 and low 32 bits, the count),
-- 4 string number, 5 test flags (the byte, the tests passed), 6 identity, 7 identity with batch, 8 date, 9 date with time
unfoldable pub told_reading : Reading → List ℕ
told_reading Plain = 0 ∷ []
told_reading Text = 1 ∷ []
told_reading (Number n) = 2 ∷ n ∷ []
told_reading (Addresses base count) = 3 ∷ (base / 4294967296) ∷ (base % 4294967296) ∷ count ∷ []
told_reading (Numbered s) = 4 ∷ s.0 ∷ []
told_reading (Tests byte n) = 5 ∷ byte ∷ n ∷ []
told_reading (Identified x) = 6 ∷ x.serial.0 ∷ x.part.0 ∷ x.major ∷ x.minor ∷ x.free0 ∷ x.free1 ∷ []
told_reading (Batched x batch) = 7 ∷ x.serial.0 ∷ x.part.0 ∷ x.major ∷ x.minor ∷ x.free0 ∷ x.free1 ∷ batch ∷ []
told_reading (Dated d) = 8 ∷ d.year ∷ d.month ∷ d.day ∷ []
told_reading (Timed d t) = 9 ∷ d.year ∷ d.month ∷ d.day ∷ t.hour ∷ t.minute ∷ t.second ∷ []

-- 01's "Numbers given back": a number (0 where nothing is refused), a place, a count, a part, and the entries that are given.
-- A refusal has zero counts, an empty part and no entry
pub record Told : Type 0 where
  pub number : ℕ
  pub place : ℕ
  pub count : ℕ
  pub part : Part
  pub given : List Entry

abbrev pub told_refusal : Refusal → Told
told_refusal r = record { number = r.number; place = r.place.0; count = 0; part = part_at 0 0; given = [] }

abbrev pub told : ℕ → Part → List Entry → Told
told n x es = record { number = 0; place = 0; count = n; part = x; given = es }

abbrev pub told_checked : Checked → Told
told_checked (Ok n) = told n (part_at 0 0) []
told_checked (Err r) = told_refusal r

abbrev pub told_lookup : Lookup → Told
told_lookup (Ok x) = told 1 (part_at 0 0) (x ∷ [])
told_lookup (Err r) = told_refusal r

abbrev pub told_located : Located → Told
told_located (Ok x) = told x.len x []
told_located (Err r) = told_refusal r
