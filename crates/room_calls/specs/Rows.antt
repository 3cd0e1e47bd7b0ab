-- What the pass over the rows of a file answers.
-- Assumes nothing.
use Rattle.std.specs.Prelude.{ℕ, ◌+◌, List, [], ◌∷◌, length, Bool, true, false, ◌&&◌, ltb, leb, eqb, Some, None}
use Rattle.layout.specs.Bytes.{if}
use Rattle.rooms.specs.File.{Row, right_from, sizes}
use Rattle.room_calls.specs.declared.Row.{Row as Taken}
use Rattle.room_calls.specs.declared.Tally.{Tally}
use Rattle.room_calls.specs.Answers.{Scan}

-- the row that the code takes from a file
abbrev pub as_row : Taken → Row
as_row r = record { number = r.number; format = r.format; zero = r.zero; size = r.size }

-- a row has its zero, a body, and a number from `low` on
abbrev pub right_row : ℕ → Row → Bool
right_row low r = leb low r.number && eqb r.zero 0 && leb 1 r.size

-- so much where the test passes, and else nothing
abbrev pub weigh : Bool → ℕ → ℕ
weigh true n = n
weigh false n = 0

-- what rows come to for a board number, with this one of them
abbrev pub with_row : Tally → ℕ → ℕ → ℕ → Tally
with_row t number size wanted =
    record {
      count = t.count;
      rows = t.rows + weigh (ltb number wanted) 1;
      below = t.below + weigh (ltb number wanted) size;
      own = t.own + weigh (eqb number wanted) size;
      total = t.total + size;
    }

-- what rows weigh together
unfoldable pub sum : (Row → ℕ) → List Row → ℕ
sum f [] = 0
sum f (r ∷ rs) = f r + sum f rs

-- a row that counts where its number is below n, its body where it is, and its body where its number is n
abbrev pub low_row : ℕ → Row → ℕ
low_row n r = weigh (ltb r.number n) 1

abbrev pub low_size : ℕ → Row → ℕ
low_size n r = weigh (ltb r.number n) r.size

abbrev pub own_size : ℕ → Row → ℕ
own_size n r = weigh (eqb r.number n) r.size

-- what rows come to for the board number n
abbrev pub tallied : ℕ → List Row → Tally
tallied n rs = record { count = length rs; rows = sum (low_row n) rs; below = sum (low_size n) rs; own = sum (own_size n) rs; total = sizes rs }

abbrev pub scanned : ℕ → List Row → Scan
scanned n rs = if (right_from 0 rs) (λ _. Some (tallied n rs)) (λ _. None)
