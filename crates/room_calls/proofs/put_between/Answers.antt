-- `room_calls::put_between` meets its contract.
-- Assumes nothing.
use Rattle.room_calls.proofs.Laying.{between-room, between_put}
use native.Mathlib.Omega.{arith}
use Rattle.room_calls.proofs.put_between.Goals as goal

pub overflow_add-middle-2 : goal.overflow_add-middle-2
overflow_add-middle-2 c = let a = c.args in omega (arith, between-room a.out.now a.to a.front.now a.new.now a.after.now c.requires.0, c.requires.1)

pub returns : goal.returns
returns c = let a = c.args in between_put a.out.now a.to a.front.now a.new.now a.after.now c.copy_at.ensures c.copy_at-2.ensures c.copy_at-3.ensures c.requires.0
