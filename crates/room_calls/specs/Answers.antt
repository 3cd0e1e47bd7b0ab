-- The answers of this crate, by the types that std has for them.
-- Assumes nothing.
use Rattle.std.specs.Prelude.{⊤}
use Rattle.std.specs.declared.option.Option.{Option}
use Rattle.std.specs.declared.result.Result.{Result}
use Rattle.layout.specs.declared.Refusal.{Refusal}
use Rattle.room_calls.specs.declared.Tally.{Tally}

-- what the rows of a file come to, where none of them is wrong
abbrev pub Scan : Type 0
Scan = Option Tally

-- what the rows of a file come to; or what refuses the file
abbrev pub Found : Type 0
Found = Result Tally Refusal

-- every body is accepted; or what refuses the first that is not
abbrev pub Judged : Type 0
Judged = Result ⊤ Refusal
