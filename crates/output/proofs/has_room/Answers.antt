-- `output::has_room` meets its contract: the test of the cut-off sum is the test of the sum.
-- Assumes nothing.
use Prim.Native.Nat.{◌+◌}
use native.Mathlib.Omega.{arith}
use borrow.Author.Tests.{le-leb, lt-leb}
use Rattle.output.specs.Lengths.{has_room}
use Rattle.output.proofs.Lengths.{capped-min, fits-alike}
use Rattle.output.proofs.has_room.Goals as goal

pub returns-then-room-le65536 : goal.returns-then-room-le65536
unfolding has_room
returns-then-room-le65536 c = let a = c.args in
    rw (le-leb _ _ c.if-room-le65536.true)
    (fits-alike c.add_capped.result (a.at + a.n) a.room c.if-room-le65536.true (omega (arith, capped-min (a.at + a.n))))

pub returns-else-room-le65536 : goal.returns-else-room-le65536
unfolding has_room
returns-else-room-le65536 c = rw (lt-leb _ _ c.if-room-le65536.false)
