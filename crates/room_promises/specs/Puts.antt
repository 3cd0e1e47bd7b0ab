-- What a call leaves in the output (02, "Machine-room file"): the file of the list with that one board added, replaced or gone, and the bytes past it as they were; a refused call leaves all as it was.
-- Assumes nothing.
use Rattle.std.specs.Prelude.{ℕ, ◌≤◌, ◌<◌, ◌≡◌, List, ◌∷◌, length, take, drop}
use Rattle.layout.specs.Each.{Each}
use Rattle.rooms.specs.File.{Board, file_of}
use Rattle.promises.specs.Words.{Counts, IsRefused}
use Rattle.promises.specs.Numbers.{Gives, image_numbers}
use Rattle.room_promises.specs.Words.{RoomFile, RoomChange, tells, Changes, tells_fetch}

-- a change that is taken, of m bytes: an edition that takes the file takes the new one, and every other board is as it was, its body the same bytes, in order
pub record Put (x : RoomChange) (form e : ℕ) (file out : List ℕ) (m : ℕ) : Type 0 where
  pub former : List Board
  pub latter : List Board
  pub before : RoomFile form e file former
  pub makes : x.Makes former latter
  pub after : RoomFile form e (take m (x.call form e file out).memory) latter
  pub stays : drop m (x.call form e file out).memory ≡ drop m out
  pub long : m ≡ length (file_of form latter)
  pub fits : m ≤ length out
  pub most : m ≤ 65536

pub record RoomsPut : Type 1 where
  -- board numbers are numbers of 32 bits
  pub taken : (n : ℕ) (x : RoomChange) → Changes n x → n < 4294967296 → (form e : ℕ) (file out : List ℕ) (m : ℕ) → Each (λ b. b < 256) file →
      Counts (tells x form e file out) m → Put x form e file out m
  pub refused : (n : ℕ) (x : RoomChange) → Changes n x → (form e : ℕ) (file out : List ℕ) → IsRefused (tells x form e file out) → (x.call form e file out).memory ≡ out
  -- the numbers that each call can give
  pub numbers : (n : ℕ) (x : RoomChange) → Changes n x → (form e : ℕ) (file out : List ℕ) → Gives (21 ∷ x.number ∷ 12 ∷ image_numbers) (tells x form e file out)
  pub fetch_numbers : (form e : ℕ) (file : List ℕ) (n : ℕ) → Gives (21 ∷ 22 ∷ image_numbers) (tells_fetch form e file n)

-- the new file is bytes where the body that is brought is, so that it may be lent to the next call
abbrev pub NewBytes : Type 1
NewBytes =
    (n : ℕ) (x : RoomChange) → Changes n x → n < 4294967296 → (form e : ℕ) (file out : List ℕ) (m : ℕ) → Each (λ b. b < 256) file →
    Each (λ b. Each (λ y. y < 256) b.body) x.brings → Counts (tells x form e file out) m → Each (λ b. b < 256) (take m (x.call form e file out).memory)
