-- `vendor::put_pieces` meets its contract: a loop over the lengths, with a piece of the payload for each.
-- Assumes nothing.
use Prim.Native.Nat.{◌≤◌}
use mathlib.Core.Path.{◌≡◌}
use native.Mathlib.Omega.{arith}
use lib.ListN.{length}
use Rattle.blocks.specs.Payload.{cut_into, sum}
use Rattle.vendor.proofs.Cutting.{sizes, pieces-chunked, putting-starts, putting-sum, putting-room, putting-on, putting-over}
use Rattle.vendor.proofs.put_pieces.Goals as goal

pub loop-size-init : goal.loop-size-init
loop-size-init c = let a = c.args in
    let xs = c.as_chunks.result.0.now in
    let same = pieces-chunked a.pieces.now c.as_chunks.ensures.front in
    let total : sum (sizes xs) ≡ length a.payload.now = rw (← same) c.requires.1 in
    let fits : length (cut_into (sizes xs) a.payload.now) ≤ length a.out.now = rw (← same) c.requires.2 in
    putting-starts xs a.out.now a.payload.now total fits

pub split_at-requires : goal.split_at-requires
split_at-requires c = putting-sum c.loop-size.invariant c.loop-size-test.true c.from_le_bytes.ensures

pub put_piece-requires : goal.put_piece-requires
put_piece-requires c = let s = c.split_at.ensures in
    (putting-room c.loop-size.invariant c.loop-size-test.true c.from_le_bytes.ensures s.front s.back, omega (arith, c.requires.0))

pub overflow_add-to-in-loop-size : goal.overflow_add-to-in-loop-size
overflow_add-to-in-loop-size c = let s = c.split_at.ensures in
    omega (arith, putting-room c.loop-size.invariant c.loop-size-test.true c.from_le_bytes.ensures s.front s.back, c.requires.0)

pub loop-size-preserved : goal.loop-size-preserved
loop-size-preserved c = let s = c.split_at.ensures in
    putting-on c.loop-size.invariant c.loop-size-test.true c.from_le_bytes.ensures s.front s.back c.put_piece.ensures

pub returns : goal.returns
returns c = rw (pieces-chunked c.args.pieces.now c.as_chunks.ensures.front) (putting-over c.loop-size.invariant c.loop-size-test.false)
