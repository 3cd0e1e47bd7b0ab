-- `room_calls::find_board` meets its contract: 1, 2, and what the file is read as.
-- Assumes nothing.
use mathlib.Core.Path.{ap, sym, ◌∙◌}
use Rattle.rooms.specs.Calls.{Opened}
use Rattle.room_calls.specs.Boards.{found_by}
use Rattle.room_calls.proofs.Opening.{unknown-edition, long-file, long-output, opened}
use Rattle.room_calls.proofs.find_board.Goals as goal
use Rattle.room_calls.proofs.find_board.Goals.{then-file-gt65536-via-then-file-gt65536, then-file-gt65536-via-else-file-gt65536+then-lent-gt65536}

pub returns-then-not-is_edition : goal.returns-then-not-is_edition
returns-then-not-is_edition c = let a = c.args in let s = a.file.now in rw c.from.ensures (unknown-edition a.form a.edition s a.lent a.wanted (sym c.is_edition.ensures ∙ c.if-not-is_edition.true))

pub returns-then-file-gt65536 : goal.returns-then-file-gt65536
returns-then-file-gt65536 c = let a = c.args in let s = a.file.now in let known = sym c.is_edition.ensures ∙ c.if-not-is_edition.false in
    rw c.from-then-file-gt65536.ensures
    (elim c.then-file-gt65536.branch [
      | then-file-gt65536-via-then-file-gt65536 w ↦ long-file a.form a.edition s a.lent a.wanted known w.if-file-gt65536.true
      | then-file-gt65536-via-else-file-gt65536+then-lent-gt65536 w ↦ long-output a.form a.edition s a.lent a.wanted known w.if-file-gt65536.false w.if-lent-gt65536.true
    ])

pub returns : goal.returns
returns c = let a = c.args in let s = a.file.now in c.read_room.ensures ∙ sym (ap (λ (x : Opened). found_by x a.wanted) (opened a.form a.edition s a.lent a.wanted (sym c.is_edition.ensures ∙ c.if-not-is_edition.false) c.if-file-gt65536.false c.if-lent-gt65536.false))
