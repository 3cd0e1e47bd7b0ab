-- What the boards of a file come to for a board number.
-- Assumes nothing.
use Rattle.std.specs.Prelude.{ℕ, ◌+◌, ◌*◌, ◌≤◌, ◌≡◌, List, [], ◌∷◌, length, drop, eqb, Ok, Err}
use Rattle.layout.specs.Bytes.{if}
use Rattle.layout.specs.Read.{limit}
use Rattle.layout.specs.Change.{Allowed, allowed, denied}
use Rattle.rooms.specs.File.{Board, bodies_of, rows_in, sizes, boards_of, holds, read_room}
use Rattle.rooms.specs.Calls.{Opened, has, has_not, below}
use Rattle.room_calls.specs.declared.Tally.{Tally}
use Rattle.room_calls.specs.Answers.{Found, Judged}

-- the board of number n, where there is one
unfoldable pub own : ℕ → List Board → List Board
own n [] = []
own n (b ∷ bs) = if (eqb b.number n) (λ _. b ∷ []) (λ _. own n bs)

abbrev pub tally_of : ℕ → List Board → Tally
tally_of n bs = record { count = length bs; rows = length (below n bs); below = length (bodies_of (below n bs)); own = length (bodies_of (own n bs)); total = length (bodies_of bs) }

abbrev pub found_by : Opened → ℕ → Found
found_by (has bs) n = Ok (tally_of n bs)
found_by (has_not r) n = Err r

abbrev pub judged_by : Allowed → Judged
judged_by allowed = Ok tt
judged_by (denied r) = Err r

-- the boards of n rows
abbrev pub boards_at : ℕ → List ℕ → List Board
boards_at n file = boards_of (rows_in n (drop 8 file)) (drop (8 + 8 * n) file)

-- a file is right, and this is what its boards come to for a board number
pub record Stored (form : ℕ) (file : List ℕ) (t : Tally) (wanted : ℕ) : Type 0 where
  pub right : read_room form file ≡ holds (boards_at t.count file)
  pub tally : t ≡ tally_of wanted (boards_at t.count file)
  pub whole : 8 + 8 * t.count + sizes (rows_in t.count (drop 8 file)) ≡ length file
  pub short : length file ≤ limit
