-- `room_calls::read_room` meets its contract: 21, or the boards.
-- Assumes nothing.
use mathlib.Core.Path.{sym, ◌∙◌}
use Rattle.room_calls.proofs.Opening.{unheaded, headless, rows-beyond, rows-wrong, rows-unended, rows-ended}
use Rattle.room_calls.proofs.read_room.Goals as goal
use Rattle.room_calls.proofs.read_room.Goals.{then-file-lt8-via-then-file-lt8, then-file-lt8-via-else-file-lt8+then-not-is_headed}

pub returns-then-file-lt8 : goal.returns-then-file-lt8
returns-then-file-lt8 c = let a = c.args in let s = a.file.now in
    rw c.from.ensures
    (elim c.then-file-lt8.branch [
      | then-file-lt8-via-then-file-lt8 w ↦ headless a.form s a.wanted w.if-file-lt8.true
      | then-file-lt8-via-else-file-lt8+then-not-is_headed w ↦ unheaded a.form s a.wanted (sym w.is_headed.ensures ∙ w.if-not-is_headed.true)
    ])

pub returns-then-file-start : goal.returns-then-file-start
returns-then-file-start c = let a = c.args in let s = a.file.now in let h = sym c.is_headed.ensures ∙ c.if-not-is_headed.false in rw c.from-then-file-start.ensures (rows-beyond a.form s a.wanted h c.count_in-n.result c.count_in-n.ensures.0 c.if-file-start.true)

pub returns-then-t-file : goal.returns-then-t-file
returns-then-t-file c = let a = c.args in let s = a.file.now in let h = sym c.is_headed.ensures ∙ c.if-not-is_headed.false in rw c.from-then-t-file.ensures (rows-unended a.form s a.wanted h c.count_in-n.result c.count_in-n.ensures.0 c.if-file-start.false (rw c.rows_at.ensures.0 at (sym c.scan_rows.ensures ∙ c.in-Some.is)) c.if-t-file.true)

pub returns-in_default : goal.returns-in_default
returns-in_default c = let a = c.args in let s = a.file.now in let h = sym c.is_headed.ensures ∙ c.if-not-is_headed.false in rw c.from-in_default.ensures (rows-wrong a.form s a.wanted h c.count_in-n.result c.count_in-n.ensures.0 c.if-file-start.false (rw c.rows_at.ensures.0 at (sym c.scan_rows.ensures ∙ c.in_default.is)))

pub returns : goal.returns
returns c = let a = c.args in let s = a.file.now in let h = sym c.is_headed.ensures ∙ c.if-not-is_headed.false in rows-ended a.form s a.wanted h c.count_in-n.result c.count_in-n.ensures.0 c.if-file-start.false (rw c.rows_at.ensures.0 at (sym c.scan_rows.ensures ∙ c.in-Some.is)) c.if-t-file.false
