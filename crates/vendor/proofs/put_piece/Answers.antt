-- `vendor::put_piece` meets its contract: a piece where the prefix ends.
-- Assumes nothing.
use native.Mathlib.Omega.{arith}
use Rattle.output.proofs.Overlay.{copied-then}
use Rattle.blocks.specs.Payload.{prefix}
use Rattle.vendor.proofs.put_piece.Goals as goal

pub returns : goal.returns
returns c = copied-then c.args.out.now c.args.to prefix c.args.piece.now c.copy_at.ensures c.copy_at-2.ensures (omega (arith, c.requires.0)) (omega arith)
