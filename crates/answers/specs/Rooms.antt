-- Machine-room files as C sees them (docs/C-INTERFACE.md): the packed answers, the numbers, what stays, what is put out and what is given back.
-- Lent memory is bytes: that is asked of the file. Board numbers are numbers of 32 bits.
-- Assumes nothing.
use Rattle.std.specs.Prelude.{ℕ, ◌<◌, ◌≡◌, List, ◌∷◌, take}
use Rattle.layout.specs.Bytes.{part}
use Rattle.records.specs.Exports.{Given, room_add_call, room_replace_call, room_remove_call, room_fetch_call}
use Rattle.promises.specs.Numbers.{image_numbers}
use Rattle.room_promises.specs.Words.{RoomChange, adds, replaces, removes, tells, Changes, tells_fetch}
use Rattle.room_promises.specs.Puts.{Put}
use Rattle.room_promises.specs.Fetches.{Held}
use Rattle.answers.specs.Whole.{number_of, count_of, part_of, Whole}
use Rattle.answers.specs.Lent.{RefusedAnswer}
use Rattle.answers.specs.FromC.{Bytes, OneOf}

-- the exports that make a file, by form, edition, file and output, and the change that each makes
pub data ExportOf : ℕ → RoomChange → (ℕ → ℕ → List ℕ → List ℕ → Given) → Type 1 where
  add : (n f : ℕ) (body : List ℕ) → ExportOf n (adds n f body) (λ form e file out. room_add_call form e file n f body out)
  replace : (n f : ℕ) (body : List ℕ) → ExportOf n (replaces n f body) (λ form e file out. room_replace_call form e file n f body out)
  remove : (n : ℕ) → ExportOf n (removes n) (λ form e file out. room_remove_call form e file n out)

-- the bytes of the part that a fetch gives
abbrev pub fetched_bytes : ℕ → List ℕ → List ℕ
fetched_bytes answer file = part (part_of answer) (count_of answer) file

pub record RoomsFromC : Type 1 where
  -- C takes out of each answer what the call tells
  pub whole_change : (n : ℕ) (x : RoomChange) → Changes n x → (form e : ℕ) (file out : List ℕ) → Whole (tells x form e file out)
  pub whole_fetch : (form e : ℕ) (file : List ℕ) (n : ℕ) → Whole (tells_fetch form e file n)
  -- the numbers that each export can give
  pub numbers : (n : ℕ) (x : RoomChange) (call : ℕ → ℕ → List ℕ → List ℕ → Given) → ExportOf n x call → (form e : ℕ) (file out : List ℕ) →
      OneOf (21 ∷ x.number ∷ 12 ∷ image_numbers) (call form e file out).answer
  pub fetch_numbers : (form e : ℕ) (file : List ℕ) (n : ℕ) → OneOf (21 ∷ 22 ∷ image_numbers) (room_fetch_call form e file n)
  -- a refused export changes nothing
  pub unchanged : (n : ℕ) (x : RoomChange) (call : ℕ → ℕ → List ℕ → List ℕ → Given) → ExportOf n x call → (form e : ℕ) (file out : List ℕ) →
      RefusedAnswer (call form e file out).answer → (call form e file out).memory ≡ out
  -- one that is not puts out the file of the list with that board added, replaced or gone, of so many bytes as the count
  pub taken : (n : ℕ) (x : RoomChange) (call : ℕ → ℕ → List ℕ → List ℕ → Given) → ExportOf n x call → n < 4294967296 → (form e : ℕ) (file out : List ℕ) → Bytes file →
      number_of (call form e file out).answer ≡ 0 → Put x form e file out (count_of (call form e file out).answer) × ((call form e file out).memory ≡ (x.call form e file out).memory)
  -- a fetch that is not refused gives the bytes of the body of a board of that number
  pub fetched : (form e : ℕ) (file : List ℕ) (n : ℕ) → Bytes file → number_of (room_fetch_call form e file n) ≡ 0 → Held form e file n (fetched_bytes (room_fetch_call form e file n) file)
  -- and what a board of the file holds is given so
  pub given : (form e : ℕ) (file : List ℕ) (n : ℕ) (body : List ℕ) → Bytes file → Held form e file n body →
      (number_of (room_fetch_call form e file n) ≡ 0) × (fetched_bytes (room_fetch_call form e file n) file ≡ body)
  -- what is added or replaced is given back from the new file
  pub added_back : (n f : ℕ) (body : List ℕ) → n < 4294967296 → (form e : ℕ) (file out : List ℕ) → Bytes file → number_of (room_add_call form e file n f body out).answer ≡ 0 →
      let new-file = take (count_of (room_add_call form e file n f body out).answer) (room_add_call form e file n f body out).memory in
      (number_of (room_fetch_call form e new-file n) ≡ 0) × (fetched_bytes (room_fetch_call form e new-file n) new-file ≡ body)
  pub replaced_back : (n f : ℕ) (body : List ℕ) → n < 4294967296 → (form e : ℕ) (file out : List ℕ) → Bytes file → number_of (room_replace_call form e file n f body out).answer ≡ 0 →
      let new-file = take (count_of (room_replace_call form e file n f body out).answer) (room_replace_call form e file n f body out).memory in
      (number_of (room_fetch_call form e new-file n) ≡ 0) × (fetched_bytes (room_fetch_call form e new-file n) new-file ≡ body)
