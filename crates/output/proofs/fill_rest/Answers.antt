-- `output::fill_rest` meets its contract: FFh over the rest.
-- Assumes nothing.
use Prim.Native.Nat.{◌-◌}
use mathlib.Core.Path.{◌≡◌}
use native.Mathlib.Omega.{arith}
use lib.ListN.{length, take, drop, length-drop, length-replicate}
use lib.Seq.{length-take-le}
use Rattle.output.proofs.Overlay.{put-copied}
use Rattle.output.proofs.fill_rest.Goals as goal

pub returns : goal.returns
returns c = let d = c.args.out.now in
    let a = c.args.at in
    let l : length (take (length d - a) (drop a d)) ≡ length d - a = length-take-le _ _ (omega (arith, length-drop a d)) in
    put-copied d a _ (rw l at c.fill.ensures.after (λ y e. e)) (rw length-replicate) (rw length-replicate (omega arith))
