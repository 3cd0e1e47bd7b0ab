-- `output::value_length` meets its contract: the cut-off sum of two lengths.
-- Assumes nothing.
use Rattle.output.proofs.value_length.Goals as goal

pub returns : goal.returns
returns c = rw c.lens_length.ensures at c.add_capped.ensures
