-- `room_calls::is_headed` meets its contract.
-- Assumes nothing.
use borrow.Author.Tests.{ne_eqb}
use mathlib.Core.Path.{◌∙◌}
use Rattle.rooms.specs.File.{headed}
use Rattle.room_calls.proofs.Opening.{headed-is}
use Rattle.room_calls.proofs.is_headed.Goals as goal

pub returns-then-form-eq1 : goal.returns-then-form-eq1
returns-then-form-eq1 c = let a = c.args in c.is_stored.ensures ∙ headed-is a.form a.file.now c.if-form-eq1.true c.count_in.ensures.0 c.head_bytes.ensures

pub returns-else-form-eq1 : goal.returns-else-form-eq1
unfolding headed
returns-else-form-eq1 c = rw (ne_eqb c.args.form 1 c.if-form-eq1.false)
