-- `output::write_opening` meets its contract: one copy, and in VPD three side by side.
-- Assumes nothing.
use mathlib.Core.Path.{refl}
use native.Mathlib.Omega.{arith}
use Rattle.layout.specs.Vpd.{vpd}
use Rattle.output.proofs.Lengths.{length-keyed, not-keyed}
use Rattle.output.proofs.Overlay.{copied-then}
use Rattle.output.proofs.write_opening.Goals as goal

pub put_shortest-requires : goal.put_shortest-requires
put_shortest-requires c = let a = c.args in
    let p = c.requires in
    omega (arith, p.out_len_bound.0, rw (c.in-Vpd.is, length-keyed a.code a.key.now) at p.out_len_bound.1)

pub returns-in-Vpd : goal.returns-in-Vpd
unfolding vpd
returns-in-Vpd c = let a = c.args in
    let f = c.in-Vpd.is in
    let room = rw f at c.requires.out_len_bound.1 in
    let l = length-keyed a.code a.key.now in
    rw f
    (copied-then _ _ _ _
    (copied-then _ _ _ _ c.copy_at.ensures c.put_shortest.ensures (omega arith) refl)
    c.copy_at-in-Vpd.ensures room (omega arith))

pub returns-in_default : goal.returns-in_default
returns-in_default c = rw (not-keyed c.args.format c.args.code c.args.key.now c.in_default.not-Vpd) c.copy_at.ensures
