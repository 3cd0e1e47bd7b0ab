-- `editor::take_for` meets its contract: 16 and 1 come before 2, and 2 before what the image is refused for.
-- Assumes nothing.
use borrow.Author.Tests.{lt-ltb, le-ltb}
use mathlib.Core.Path.{ap, sym, ◌∙◌}
use Rattle.std.specs.Prelude.{Err}
use Rattle.layout.specs.Read.{limit}
use Rattle.layout.proofs.Passed.{passed}
use Rattle.editor.specs.Here.{taken_for}
use Rattle.editor.proofs.take_for.Goals as goal

pub returns-in_err-choose : goal.returns-in_err-choose
unfolding taken_for
returns-in_err-choose c = rw (lt-ltb limit c.args.n c.if-n-gt65536.true, sym c.choose.ensures ∙ c.in_err-choose.was) (passed c.from_residual.result c.from_residual.ensures.1)

pub returns-then-n-gt65536 : goal.returns-then-n-gt65536
unfolding taken_for
returns-then-n-gt65536 c = rw (lt-ltb limit c.args.n c.if-n-gt65536.true, sym c.choose.ensures ∙ c.in_ok-choose.was) (ap Err c.from.ensures)

pub returns : goal.returns
unfolding taken_for
returns c = rw (le-ltb limit c.args.n c.if-n-gt65536.false) c.take_image.ensures
