-- `room_calls::lay_file` meets its contract: the head, the rows, the bodies.
-- Assumes nothing.
use Prim.Native.Nat.{◌+◌, ◌*◌}
use mathlib.Core.Path.{ap, ◌∙◌}
use lib.ListN.{length}
use Rattle.layout.specs.Bytes.{part}
use Rattle.output.proofs.Overlay.{length-copied}
use Rattle.room_calls.specs.Laying.{between}
use Rattle.room_calls.proofs.Laying.{rows-room, bodies-room, laid-put}
use native.Mathlib.Omega.{arith}
use Rattle.room_calls.proofs.lay_file.Goals as goal

pub put_between-requires : goal.put_between-requires
unfolding between part
put_between-requires c = let a = c.args in let l = c.requires.lies.0 in let g = c.rows_gone-gone.ensures.0 in
    let o = ap length c.copy_at.ensures ∙ length-copied a.out.now 0 c.head_bytes-head.result in (omega (arith, rows-room a.form a.file.now a.t a.row.now a.body.now l a.out.now g c.requires.body_in_bounds.0, o), omega (arith, o, c.requires.body_in_bounds.1))

pub put_between-requires-2 : goal.put_between-requires-2
unfolding between part
put_between-requires-2 c = let a = c.args in let l = c.requires.lies.0 in let g = c.rows_gone-gone.ensures.0 in
    let o = ap length c.copy_at.ensures ∙ length-copied a.out.now 0 c.head_bytes-head.result in let p = simp length-copied at (ap length c.put_between.ensures) in
    (omega (arith, bodies-room a.form a.file.now a.t a.row.now a.body.now l a.out.now g c.requires.body_in_bounds.0 (8 + 8 * a.t.count + a.t.below) (omega arith) (omega (arith, l.bodies)), o, p), omega (arith, o, p, c.requires.body_in_bounds.1))

pub returns : goal.returns
unfolding between part
returns c = let a = c.args in laid-put a.form a.file.now a.t a.row.now a.body.now c.requires.lies.0 a.out.now c.rows_gone-gone.ensures.0 c.head_bytes-head.ensures c.copy_at.ensures c.put_between.ensures c.put_between-2.ensures c.requires.body_in_bounds.0
