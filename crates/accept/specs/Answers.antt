-- The answers of this crate, by the types that std has for them.
-- Assumes nothing.
use Rattle.std.specs.declared.result.Result.{Result}
use Rattle.layout.specs.declared.Refusal.{Refusal}
use Rattle.accept.specs.declared.Pass.{Pass}
use Rattle.accept.specs.declared.Room.{Room}

-- what the rules and the required fields come to: nothing, or the first refusal
abbrev pub Judgement : Type 0
Judgement = Result (Unit {0}) Refusal

-- how a pass over the entries ends: with how many there are, where they end and their judgement; or with the refusal of a broken frame
abbrev pub Ending : Type 0
Ending = Result Pass Refusal

-- an image that is taken, by where its entries are; or its refusal
abbrev pub Taken : Type 0
Taken = Result Room Refusal
