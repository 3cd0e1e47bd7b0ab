-- A call that gives an outcome.
-- Assumes nothing.
use Rattle.std.specs.Prelude.{ℕ, ◌≡◌, List}
use Rattle.layout.specs.Answers.{Made}
use Rattle.layout.specs.Write.{Outcome}

-- it answers as the outcome does, and leaves the outcome's memory in the output
abbrev pub Gives : Made → List ℕ → Outcome → Type 0
Gives answer memory o = (answer ≡ o.answer) × (memory ≡ o.memory)
