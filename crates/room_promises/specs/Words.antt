-- Words that the promises of a machine-room file share. A body is what the check call says of it, and no more.
-- Assumes nothing.
use Rattle.std.specs.Prelude.{ℕ, ◌≡◌, List, [], ◌∷◌, ◌++◌}
use Rattle.layout.specs.Each.{Each}
use Rattle.layout.specs.Calls.{Told, told_located}
use Rattle.layout.specs.Write.{Outcome, told_made}
use Rattle.rooms.specs.File.{Board, board}
use Rattle.rooms.specs.Grammar.{IsFile}
use Rattle.rooms.specs.Calls.{add_board, replace_board, remove_board, fetch_board}
use Rattle.promises.specs.Words.{Counts, tells_check}

-- ---- files

-- an edition accepts the board's body
pub record Accepts (e : ℕ) (b : Board) : Type 0 where
  pub count : ℕ
  pub counts : Counts (tells_check b.format e b.body) count

-- 02's machine-room file, as an edition takes it: the file of these boards, and every body is accepted
pub record RoomFile (form e : ℕ) (file : List ℕ) (bs : List Board) : Type 0 where
  pub is : IsFile form file bs
  pub accepted : Each (Accepts e) bs

-- ---- boards

-- a board of this number is there
pub data Present (n : ℕ) : List Board → Type 0 where
  stands : (before : List Board) (b : Board) (after : List Board) → b.number ≡ n → Present n (before ++ (b ∷ after))

-- no board has this number
abbrev pub Absent : ℕ → List Board → Type 0
Absent n bs = Each (λ b. b.number ≡ n → ⊥) bs

-- one board more
pub data Added (b : Board) : List Board → List Board → Type 0 where
  added : (before after : List Board) → Added b (before ++ after) (before ++ (b ∷ after))

-- a board in the place of the one that has its number
pub data Replaced (b : Board) : List Board → List Board → Type 0 where
  replaced : (before : List Board) (old : Board) (after : List Board) → old.number ≡ b.number → Replaced b (before ++ (old ∷ after)) (before ++ (b ∷ after))

-- the board of this number is gone
pub data Removed (n : ℕ) : List Board → List Board → Type 0 where
  removed : (before : List Board) (old : Board) (after : List Board) → old.number ≡ n → Removed n (before ++ (old ∷ after)) (before ++ after)

-- ---- calls

-- a call that makes another file of a file: what it asks of the boards that are there and the number that refuses it, the boards that it brings, and what it makes of the list of boards
pub record RoomChange : Type 1 where
  -- by form, edition, file and output
  pub call : ℕ → ℕ → List ℕ → List ℕ → Outcome
  pub Asks : List Board → Type 0
  pub number : ℕ
  pub brings : List Board
  pub Makes : List Board → List Board → Type 0

abbrev pub tells : RoomChange → ℕ → ℕ → List ℕ → List ℕ → Told
tells x form e file out = told_made (x.call form e file out).answer

abbrev pub adds : ℕ → ℕ → List ℕ → RoomChange
adds n f body =
    record {
      call = λ form e file out. add_board form e file n f body out;
      Asks = Absent n;
      number = 23;
      brings = board n f body ∷ [];
      Makes = Added (board n f body);
    }

abbrev pub replaces : ℕ → ℕ → List ℕ → RoomChange
replaces n f body =
    record {
      call = λ form e file out. replace_board form e file n f body out;
      Asks = Present n;
      number = 22;
      brings = board n f body ∷ [];
      Makes = Replaced (board n f body);
    }

abbrev pub removes : ℕ → RoomChange
removes n = record { call = λ form e file out. remove_board form e file n out; Asks = Present n; number = 22; brings = []; Makes = Removed n }

-- the three calls
pub data Changes : ℕ → RoomChange → Type 1 where
  add : (n f : ℕ) (body : List ℕ) → Changes n (adds n f body)
  replace : (n f : ℕ) (body : List ℕ) → Changes n (replaces n f body)
  remove : (n : ℕ) → Changes n (removes n)

abbrev pub tells_fetch : ℕ → ℕ → List ℕ → ℕ → Told
tells_fetch form e file n = told_located (fetch_board form e file n)
