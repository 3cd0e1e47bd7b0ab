-- `room_calls::judge_bodies` meets its contract: a loop over the rows, which ends at a body that is refused.
-- Assumes nothing.
use mathlib.Core.Path.{sym, ◌∙◌}
use Rattle.layout.proofs.Passed.{passed}
use Rattle.room_calls.proofs.Judging.{judging-starts, judging-size, judging-on, judging-stops, judging-ends}
use native.Mathlib.Omega.{arith}
use Rattle.room_calls.proofs.judge_bodies.Goals as goal

pub loop-bytes-init : goal.loop-bytes-init
loop-bytes-init c = judging-starts c.args.n c.rows_at-bytes-items.ensures.0 c.requires.0

pub slice_bounds-judge_body-end : goal.slice_bounds-judge_body-end
slice_bounds-judge_body-end c = let s = judging-size c.args.n c.rows_at-bytes-items.ensures.0 c.loop-bytes.invariant c.loop-bytes-test.true c.row_of-row.ensures.0 in omega (arith, s)

pub judge_body-requires : goal.judge_body-requires
judge_body-requires c = let s = judging-size c.args.n c.rows_at-bytes-items.ensures.0 c.loop-bytes.invariant c.loop-bytes-test.true c.row_of-row.ensures.0 in omega (arith, s, c.requires.1)

pub returns-in_err-judge_body : goal.returns-in_err-judge_body
returns-in_err-judge_body c = rw (passed c.from_residual.result c.from_residual.ensures.1) (judging-stops c.args.n c.rows_at-bytes-items.ensures.0 c.loop-bytes.invariant c.loop-bytes-test.true c.row_of-row.ensures.0 (sym c.in_err-judge_body.was ∙ c.judge_body.ensures))

pub loop-bytes-preserved : goal.loop-bytes-preserved
loop-bytes-preserved c = judging-on c.args.n c.rows_at-bytes-items.ensures.0 c.loop-bytes.invariant c.loop-bytes-test.true c.row_of-row.ensures.0 (sym c.in_ok-judge_body.was ∙ c.judge_body.ensures)

pub returns : goal.returns
returns c = judging-ends c.args.n c.rows_at-bytes-items.ensures.0 c.loop-bytes.invariant c.loop-bytes-test.false
