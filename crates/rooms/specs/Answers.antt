-- The answers of this crate, by the types that std has for them.
-- Assumes nothing.
use Rattle.std.specs.Prelude.{ℕ}
use Rattle.std.specs.declared.result.Result.{Result}
use Rattle.layout.specs.declared.Refusal.{Refusal}

-- the answer of a load: how many boards there are, and the entries of all of them. Of the display: 0 and the total that is kept. Of a find: the number of the row that has the board, from 0, and 0
abbrev pub Counted : Type 0
Counted = Result (ℕ × ℕ) Refusal
