-- The answers of this crate, by the types that std has for them.
-- Assumes nothing.
use Rattle.std.specs.declared.option.Option.{Option}
use Rattle.reader.specs.declared.Standing.{Standing}

-- the entry that stands at a place, or that there are no more of them
abbrev pub Here : Type 0
Here = Option Standing
