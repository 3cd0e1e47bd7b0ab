-- `output::finish_fboss` meets its contract: header, check and end make the image.
-- Assumes nothing.
use mathlib.Core.Path.{refl, ◌∙◌}
use borrow.Author.Rules.{rules}
use Rattle.layout.specs.Fboss.{fboss}
use Rattle.output.proofs.Sealing.{two-high, sealed}
use Rattle.output.proofs.finish_fboss.Goals as goal

pub returns : goal.returns
unfolding fboss
returns c = sealed fboss _ _ _ c.copy_at.ensures c.put_end.ensures refl (rw (c.to_be_bytes.ensures ∙ two-high c.check16.type_inv, c.check16.ensures)) (search rules)
