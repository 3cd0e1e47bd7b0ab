-- `room_calls::scan_rows` meets its contract: a loop over the rows, which ends at one that is wrong.
-- Assumes nothing.
use mathlib.Core.Path.{sym, ◌∙◌}
use Rattle.room_calls.proofs.Scanning.{scanning-starts, scanning-on, scanning-stops, scanning-ends}
use native.Mathlib.Omega.{arith}
use Rattle.room_calls.proofs.scan_rows.Goals as goal

pub loop-bytes-init : goal.loop-bytes-init
loop-bytes-init c = let a = c.args in scanning-starts a.rows.now a.wanted

pub returns-then-not-is_right : goal.returns-then-not-is_right
returns-then-not-is_right c = scanning-stops c.loop-bytes.invariant c.loop-bytes-test.true c.row_of-row.ensures.0 (sym c.is_right.ensures ∙ c.if-not-is_right.true)

pub with_row-t-requires : goal.with_row-t-requires
with_row-t-requires c = let i = c.loop-bytes.invariant in let some = c.loop-bytes-test.true in
    (omega (arith, some, c.requires, i.few_rows), omega (arith, some, c.requires, i.few_below), omega (arith, some, c.requires, i.few_own), omega (arith, some, c.requires, i.few_total), c.row_of-row.ensures.1)

pub loop-bytes-preserved : goal.loop-bytes-preserved
loop-bytes-preserved c = rw (c.with_row-t.ensures, c.from-low.ensures) (scanning-on c.loop-bytes.invariant c.loop-bytes-test.true c.row_of-row.ensures.0 (sym c.is_right.ensures ∙ c.if-not-is_right.false) c.row_of-row.ensures.1)

pub returns : goal.returns
returns c = scanning-ends c.loop-bytes.invariant c.loop-bytes-test.false
