-- The published rules of a machine-room file as a grammar: a list of bytes is the file of a list of boards, or it is not (02, "Machine-room file"). Nothing here reads.
-- That a file has at most 65,536 bytes is asked by the calls (2).
-- Assumes nothing.
use Rattle.std.specs.Prelude.{ℕ, ◌+◌, ◌≤◌, ◌<◌, ◌≡◌, List, [], ◌∷◌, length}
use Rattle.layout.specs.Each.{Each}
use Rattle.rooms.specs.File.{Board, file_of}

-- board numbers rise strictly, from `low` on
pub data Rising : ℕ → List Board → Type 0 where
  none : {low : ℕ} → Rising low []
  next : {low : ℕ} {b : Board} {bs : List Board} → low ≤ b.number → Rising (b.number + 1) bs → Rising low (b ∷ bs)

-- what a row can say of a board: a number of 32 bits, a format of one byte, a body of 1 to 65,535 bytes
pub record Storable (b : Board) : Type 0 where
  pub number : b.number < 4294967296
  pub format : b.format < 256
  pub least : 1 ≤ length b.body
  pub most : length b.body ≤ 65535

-- boards that a file of this form can hold
pub record Holdable (form : ℕ) (bs : List Board) : Type 0 where
  pub form_is : form ≡ 1
  pub count : length bs ≤ 65535
  pub rising : Rising 0 bs
  pub storable : Each Storable bs

-- head and contents of a file are right: it is the file of these boards
pub record IsFile (form : ℕ) (file : List ℕ) (bs : List Board) : Type 0 where
  pub holdable : Holdable form bs
  pub is : file ≡ file_of form bs
