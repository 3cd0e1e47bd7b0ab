-- `output::finish_tiny` meets its contract: header, check and end make the image.
-- Assumes nothing.
use mathlib.Core.Path.{refl}
use borrow.Author.Rules.{rules}
use Rattle.layout.specs.Tiny.{tiny}
use Rattle.output.proofs.Sealing.{sealed}
use Rattle.output.proofs.finish_tiny.Goals as goal

pub returns : goal.returns
unfolding tiny
returns c = sealed tiny _ _ _ c.copy_at.ensures c.put_end.ensures refl (rw c.check8-check.ensures) (search rules)
