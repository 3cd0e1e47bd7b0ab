-- The answers of this crate, by the types that std has for them.
-- Assumes nothing.
use Rattle.std.specs.Prelude.{ℕ}
use Rattle.std.specs.declared.option.Option.{Option}
use Rattle.layout.specs.declared.Frame.{Frame}

-- where an entry stands, by its frame and the place of its first byte; or that there is none
abbrev pub Spot : Type 0
Spot = Option (Frame × ℕ)
