-- `room_calls::count_in` meets its contract.
-- Assumes nothing.
use mathlib.Core.Path.{◌∙◌}
use Rattle.room_calls.proofs.Fields.{count-said}
use Rattle.room_calls.proofs.count_in.Goals as goal
use native.Mathlib.Omega.{arith}

pub returns : goal.returns
returns c = (c.from.ensures ∙ c.from_be_bytes.ensures ∙ count-said c.args.file.now c.requires, omega (arith, c.from.ensures))
