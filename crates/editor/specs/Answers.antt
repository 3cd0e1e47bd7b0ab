-- The answers of this crate, by the types that std has for them.
-- Assumes nothing.
use Rattle.std.specs.Prelude.{ℕ}
use Rattle.std.specs.declared.option.Option.{Option}

-- where a new entry goes, where none that is the same is there
abbrev pub New : Type 0
New = Option ℕ
