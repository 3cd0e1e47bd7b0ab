-- `room_calls::head_bytes` meets its contract.
-- Assumes nothing.
use Rattle.rooms.specs.File.{head}
use borrow.Author.Rules.{rules}
use Rattle.room_calls.proofs.head_bytes.Goals as goal

pub returns : goal.returns
unfolding head
returns c = search rules
