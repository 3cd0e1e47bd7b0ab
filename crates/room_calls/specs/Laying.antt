-- The bytes of a new file, by blocks of the old one.
-- Assumes nothing.
use Rattle.std.specs.Prelude.{ℕ, ◌+◌, ◌*◌, ◌-◌, ◌/◌, ◌≤◌, List, ◌++◌, length, ltb}
use Rattle.layout.specs.Bytes.{part}
use Rattle.rooms.specs.File.{head}
use Rattle.room_calls.specs.declared.Tally.{Tally}
use Rattle.room_calls.specs.Rows.{weigh}

-- how many rows go with a body of so many bytes
abbrev pub rows_gone : ℕ → ℕ
rows_gone own = weigh (ltb 0 own) 1

-- the bytes of s from `from` to `cut` and from `next` to `end`, with what is new between them
unfoldable pub between : ℕ → ℕ → ℕ → ℕ → List ℕ → List ℕ → List ℕ
between from cut next end new s = part from (cut - from) s ++ (new ++ part next (end - next) s)

-- the file with a row and a body in the place of those that the tally has
unfoldable pub laid : ℕ → List ℕ → Tally → List ℕ → List ℕ → List ℕ
laid form file t row body =
    head form (t.count - rows_gone t.own + length row / 8)
    ++ (between 8 (8 + 8 * t.rows) (8 + 8 * t.rows + 8 * rows_gone t.own) (8 + 8 * t.count) row file
    ++ between (8 + 8 * t.count) (8 + 8 * t.count + t.below) (8 + 8 * t.count + t.below + t.own) (length file) body file)

-- what the tally has lies in a file of so many bytes
pub record Lies (size : ℕ) (t : Tally) : Type 0 where
  pub rows : t.rows + rows_gone t.own ≤ t.count
  pub bodies : 8 + 8 * t.count + t.below + t.own ≤ size
