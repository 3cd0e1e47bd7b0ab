-- `fields::count_fields` meets its contract.
-- Assumes nothing.
use mathlib.Core.Path.{sym}
use Rattle.fields.proofs.Lists.{how-many}
use Rattle.fields.proofs.count_fields.Goals as goal

pub returns : goal.returns
returns c = sym (how-many _)
