-- `parts::all_printable` meets its contract: the bounds of text.
-- Assumes nothing.
use Rattle.parts.proofs.all_printable.Goals as goal

pub returns : goal.returns
returns c = c.all_between.ensures
