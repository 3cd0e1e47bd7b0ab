-- `room_calls::put_file` meets its contract: 12 where it does not fit.
-- Assumes nothing.
use mathlib.Core.Path.{◌∙◌}
use Rattle.layout.proofs.Outcomes.{outcome}
use Rattle.room_calls.proofs.Laying.{length-laid, laid-short, laid-fits}
use native.Mathlib.Omega.{arith}
use Rattle.room_calls.proofs.put_file.Goals as goal

pub returns-then-body-gt65536 : goal.returns-then-body-gt65536
returns-then-body-gt65536 c = let a = c.args in rw c.from.ensures (let w = outcome (laid-short a.form a.file.now a.t a.row.now a.body.now c.requires.0 a.out.now (omega (arith, c.requires.3, c.if-body-gt65536.true))) in record { value = w.0; out_after = w.1 })

pub returns-then-out-total : goal.returns-then-out-total
returns-then-out-total c = let a = c.args in rw c.from-then-out-total.ensures (let w = outcome (laid-short a.form a.file.now a.t a.row.now a.body.now c.requires.0 a.out.now (omega (arith, c.rows_gone.ensures.0, c.if-out-total.true))) in record { value = w.0; out_after = w.1 })

pub lay_file-requires : goal.lay_file-requires
lay_file-requires c = let a = c.args in let l = length-laid a.form a.file.now a.t a.row.now a.body.now c.requires.0 in record { lies = (c.requires.0, c.requires.1, c.requires.2); body_in_bounds = (omega (arith, l, c.rows_gone.ensures.0, c.if-out-total.false), c.requires.3) }

pub returns : goal.returns
returns c = let a = c.args in let g = outcome (laid-fits a.form a.file.now a.t a.row.now a.body.now c.requires.0 a.out.now (omega (arith, c.rows_gone.ensures.0, c.if-out-total.false))) in record { value = rw c.rows_gone.ensures.0 g.0; out_after = c.lay_file.ensures ∙ g.1 }
