-- `vendor::count_pieces` meets its contract: a loop over the lengths, which ends where one is too large.
-- Assumes nothing.
use Prim.Native.Nat.{◌<◌}
use native.Mathlib.Omega.{arith}
use Rattle.vendor.proofs.Cutting.{pieces-chunked, counting-starts, counting-on, counting-large, counting-beyond, counting-short, counting-right}
use Rattle.vendor.proofs.count_pieces.Goals as goal

pub loop-size-init : goal.loop-size-init
loop-size-init c = counting-starts c.as_chunks.result.0.now c.args.need

pub returns-then-size-gt250 : goal.returns-then-size-gt250
returns-then-size-gt250 c = rw (pieces-chunked c.args.pieces.now c.as_chunks.ensures.front) (counting-large c.loop-size.invariant c.loop-size-test.true c.from_le_bytes-size.ensures c.if-size-gt250.true)

pub returns-in_err-left : goal.returns-in_err-left
returns-in_err-left c = let beyond : c.loop-size.left < c.from_le_bytes-size.result = omega (arith, c.in_err-left.ensures) in
    rw (c.from_residual.ensures, pieces-chunked c.args.pieces.now c.as_chunks.ensures.front) (counting-beyond c.loop-size.invariant c.loop-size-test.true c.from_le_bytes-size.ensures beyond)

pub loop-size-preserved : goal.loop-size-preserved
loop-size-preserved c = rw c.in_ok-left.ensures.1 (counting-on c.loop-size.invariant c.loop-size-test.true c.from_le_bytes-size.ensures c.if-size-gt250.false c.in_ok-left.ensures.0)

pub returns-then-left-ne0 : goal.returns-then-left-ne0
returns-then-left-ne0 c = rw (pieces-chunked c.args.pieces.now c.as_chunks.ensures.front) (counting-short c.loop-size.invariant c.loop-size-test.false c.if-left-ne0.true)

pub returns : goal.returns
returns c = rw (pieces-chunked c.args.pieces.now c.as_chunks.ensures.front) (counting-right c.loop-size.invariant c.loop-size-test.false c.if-left-ne0.false)
