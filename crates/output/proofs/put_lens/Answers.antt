-- `output::put_lens` meets its contract: a value that is as long as its pool has no length byte.
-- Assumes nothing.
use mathlib.Core.Path.{sym}
use borrow.Author.Tests.{le-ltb}
use Rattle.layout.specs.Tiny.{tiny}
use Rattle.output.proofs.Overlay.{copied-nil}
use Rattle.output.proofs.put_lens.Goals as goal

pub returns-else-code-lt16 : goal.returns-else-code-lt16
unfolding tiny
returns-else-code-lt16 c = rw (c.in-Tiny.is, le-ltb _ _ c.if-code-lt16.false) (sym (copied-nil _ _))
