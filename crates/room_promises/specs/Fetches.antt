-- What a fetch takes, and that what is put in is given back (02, "Machine-room file"): the body of a board that was added or replaced, and every other one, from the new file.
-- Assumes nothing.
use Rattle.std.specs.Prelude.{ℕ, ◌+◌, ◌≤◌, ◌<◌, ◌≡◌, List, [], ◌∷◌, ◌++◌, length, take}
use Rattle.layout.specs.declared.Part.{Part}
use Rattle.layout.specs.Each.{Each}
use Rattle.layout.specs.Bytes.{part}
use Rattle.layout.specs.Calls.{told}
use Rattle.rooms.specs.File.{Board, board}
use Rattle.promises.specs.Words.{Counts, Refuses}
use Rattle.promises.specs.Rules.{Exactly}
use Rattle.room_promises.specs.Words.{RoomFile, RoomChange, adds, replaces, removes, tells, Changes, tells_fetch}

-- a fetch of board n gives a part of the file, and those bytes are this body
pub record Fetches (form e : ℕ) (file : List ℕ) (n : ℕ) (body : List ℕ) : Type 0 where
  pub x : Part
  pub tells : tells_fetch form e file n ≡ told x.len x []
  pub inside : x.place.0 + x.len ≤ length file
  pub bytes : part x.place.0 x.len file ≡ body

-- the file is that of boards whose bodies an edition accepts, of at most 65,536 bytes, and one of the boards has this number and this body
pub record Held (form e : ℕ) (file : List ℕ) (n : ℕ) (body : List ℕ) : Type 0 where
  pub short : length file ≤ 65536
  pub format : ℕ
  pub before : List Board
  pub after : List Board
  pub room : RoomFile form e file (before ++ (board n format body ∷ after))

-- a fetch gives a body exactly there
abbrev pub Takes : Type 0
Takes = (form e : ℕ) (file : List ℕ) (n : ℕ) (body : List ℕ) → Each (λ b. b < 256) file → Exactly (Fetches form e file n body) (Held form e file n body)

-- the file that a change has made
abbrev pub new_file : RoomChange → ℕ → ℕ → List ℕ → List ℕ → ℕ → List ℕ
new_file x form e file out m = take m (x.call form e file out).memory

pub record GivenBack : Type 1 where
  pub added : (n f : ℕ) (body : List ℕ) → n < 4294967296 → (form e : ℕ) (file out : List ℕ) (m : ℕ) → Each (λ b. b < 256) file →
      Counts (tells (adds n f body) form e file out) m → Fetches form e (new_file (adds n f body) form e file out m) n body
  pub replaced : (n f : ℕ) (body : List ℕ) → n < 4294967296 → (form e : ℕ) (file out : List ℕ) (m : ℕ) → Each (λ b. b < 256) file →
      Counts (tells (replaces n f body) form e file out) m → Fetches form e (new_file (replaces n f body) form e file out m) n body
  pub removed : (n : ℕ) → n < 4294967296 → (form e : ℕ) (file out : List ℕ) (m : ℕ) → Each (λ b. b < 256) file →
      Counts (tells (removes n) form e file out) m → Refuses (tells_fetch form e (new_file (removes n) form e file out m) n) 22 0
  -- every other board is fetched as before
  pub others : (n : ℕ) (x : RoomChange) → Changes n x → n < 4294967296 → (form e : ℕ) (file out : List ℕ) (m : ℕ) → Each (λ b. b < 256) file →
      Counts (tells x form e file out) m → (k : ℕ) (body : List ℕ) → (k ≡ n → ⊥) → Fetches form e file k body → Fetches form e (new_file x form e file out m) k body
