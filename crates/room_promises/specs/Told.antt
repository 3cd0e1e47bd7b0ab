-- What the calls on a machine-room file tell, by the table and in its order: each line where none before it holds, so that each is given exactly where it says (02, "Machine-room file").
-- A file is taken exactly where it is the file of a list of boards and every body is accepted: `taken` and `given` ask that, and every other line denies it or comes after it. One line holds (RoomsTold), and no
-- other (RoomsExact).
-- Lent memory is bytes: that is asked of the file.
-- Assumes nothing.
use Rattle.std.specs.Prelude.{ℕ, ◌+◌, ◌*◌, ◌≤◌, ◌<◌, ◌≡◌, List, [], ◌∷◌, ◌++◌, ◌⊎◌, length}
use Rattle.layout.specs.Each.{Each}
use Rattle.layout.specs.Bytes.{part_at, refusal}
use Rattle.layout.specs.Calls.{Told, told, told_refusal}
use Rattle.rooms.specs.File.{Board, bodies_of, file_of}
use Rattle.rooms.specs.Grammar.{IsFile}
use Rattle.promises.specs.Words.{KnownEdition, Counts, Refuses, tells_check}
use Rattle.room_promises.specs.Words.{Accepts, RoomFile, Present, RoomChange, tells, Changes, tells_fetch}

-- ---- bodies

-- the check refuses this board's body, by this number and at this place in it
pub record Refused (e : ℕ) (b : Board) (number place : ℕ) : Type 0 where
  pub refuses : Refuses (tells_check b.format e b.body) number place
  pub some : number ≡ 0 → ⊥

-- of stored boards the first whose body is refused. Places count in the file: the bodies begin after eight bytes and eight for each board, and the body's start is added also to a place 0
pub data FirstRefused (e : ℕ) : List Board → ℕ → ℕ → Type 0 where
  first : (before : List Board) (b : Board) (after : List Board) (number place : ℕ) → Each (Accepts e) before → Refused e b number place →
      FirstRefused e (before ++ (b ∷ after)) number (8 + 8 * length (before ++ (b ∷ after)) + length (bodies_of before) + place)

-- ---- add, replace, remove

pub data ChangeTold (x : RoomChange) (form e : ℕ) (file out : List ℕ) : Told → Type 0 where
  -- 21: head or contents wrong
  wrong : ((bs : List Board) → IsFile form file bs → ⊥) → ChangeTold x form e file out (told_refusal (refusal 21 0))
  -- 22 or 23
  denied : (bs : List Board) → IsFile form file bs → (x.Asks bs → ⊥) → ChangeTold x form e file out (told_refusal (refusal x.number 0))
  -- a stored body's own, the body that goes among them
  stored : (bs : List Board) → IsFile form file bs → x.Asks bs → (number place : ℕ) → FirstRefused e bs number place → ChangeTold x form e file out (told_refusal (refusal number place))
  -- the new body's own, places counted in it
  new : (bs : List Board) → RoomFile form e file bs → x.Asks bs → (b : Board) → x.brings ≡ b ∷ [] → (number place : ℕ) → Refused e b number place →
      ChangeTold x form e file out (told_refusal (refusal number place))
  -- 12 exactly where the new file does not fit
  too_long : (bs after : List Board) → RoomFile form e file bs → x.Asks bs → Each (Accepts e) x.brings → x.Makes bs after → length out < length (file_of form after) →
      ChangeTold x form e file out (told_refusal (refusal 12 0))
  taken : {t : Told} (bs after : List Board) → RoomFile form e file bs → x.Asks bs → Each (Accepts e) x.brings → x.Makes bs after → length (file_of form after) ≤ length out →
      Counts t (length (file_of form after)) → ChangeTold x form e file out t

-- before the file is looked at: 1, then 2 for the file or the output
pub record ChangeTells (x : RoomChange) (form e : ℕ) (file out : List ℕ) : Type 0 where
  pub unknown : (KnownEdition e → ⊥) → Refuses (tells x form e file out) 1 0
  pub long : KnownEdition e → (65536 < length file) ⊎ (65536 < length out) → Refuses (tells x form e file out) 2 0
  pub line : KnownEdition e → length file ≤ 65536 → length out ≤ 65536 → ChangeTold x form e file out (tells x form e file out)

-- ---- fetch

pub data FetchTold (form e : ℕ) (file : List ℕ) (n : ℕ) : Told → Type 0 where
  wrong : ((bs : List Board) → IsFile form file bs → ⊥) → FetchTold form e file n (told_refusal (refusal 21 0))
  missing : (bs : List Board) → IsFile form file bs → (Present n bs → ⊥) → FetchTold form e file n (told_refusal (refusal 22 0))
  stored : (bs : List Board) → IsFile form file bs → Present n bs → (number place : ℕ) → FirstRefused e bs number place → FetchTold form e file n (told_refusal (refusal number place))
  -- the body as a part of the file
  given : (before : List Board) (b : Board) (after : List Board) → RoomFile form e file (before ++ (b ∷ after)) → b.number ≡ n →
      FetchTold form e file n (told (length b.body) (part_at (8 + 8 * length (before ++ (b ∷ after)) + length (bodies_of before)) (length b.body)) [])

pub record FetchTells (form e : ℕ) (file : List ℕ) (n : ℕ) : Type 0 where
  pub unknown : (KnownEdition e → ⊥) → Refuses (tells_fetch form e file n) 1 0
  pub long : KnownEdition e → 65536 < length file → Refuses (tells_fetch form e file n) 2 0
  pub line : KnownEdition e → length file ≤ 65536 → FetchTold form e file n (tells_fetch form e file n)

-- ---- the promise

pub record RoomsTold : Type 1 where
  -- one file is of one list of boards
  pub one : (form : ℕ) (file : List ℕ) (bs cs : List Board) → IsFile form file bs → IsFile form file cs → bs ≡ cs
  pub changed : (n : ℕ) (x : RoomChange) → Changes n x → (form e : ℕ) (file out : List ℕ) → Each (λ b. b < 256) file → ChangeTells x form e file out
  pub fetched : (form e : ℕ) (file : List ℕ) (n : ℕ) → Each (λ b. b < 256) file → FetchTells form e file n

-- what any line says is what is told
pub record RoomsExact : Type 1 where
  pub changed : (n : ℕ) (x : RoomChange) → Changes n x → (form e : ℕ) (file out : List ℕ) → Each (λ b. b < 256) file → KnownEdition e → length file ≤ 65536 → length out ≤ 65536 →
      (t : Told) → ChangeTold x form e file out t → t ≡ tells x form e file out
  pub fetched : (form e : ℕ) (file : List ℕ) (n : ℕ) → Each (λ b. b < 256) file → KnownEdition e → length file ≤ 65536 → (t : Told) → FetchTold form e file n t → t ≡ tells_fetch form e file n
