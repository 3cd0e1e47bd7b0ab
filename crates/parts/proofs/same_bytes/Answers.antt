-- `parts::same_bytes` meets its contract: slices are compared byte by byte, as the definition does.
-- Assumes nothing.
use mathlib.Core.Path.{◌∙◌}
use Rattle.parts.proofs.Loops.{same_listed}
use Rattle.parts.proofs.same_bytes.Goals as goal

pub returns : goal.returns
returns c = c.eq.ensures ∙ same_listed _ _
