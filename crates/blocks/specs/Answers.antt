-- The answers of this crate, by the types that std has for them.
-- Assumes nothing.
use Rattle.std.specs.Prelude.{ℕ}
use Rattle.std.specs.declared.result.Result.{Result}
use Rattle.blocks.specs.declared.Block.{Block}
use Rattle.layout.specs.declared.Refusal.{Refusal}

-- what a payload comes to: what it says, or the number of the refusal
abbrev pub Said : Type 0
Said = Result Block ℕ

-- the answer of a vendor read: the length of the payload, and what it says
abbrev pub Vended : Type 0
Vended = Result (ℕ × Block) Refusal
