-- `boardid::boardid_add` meets its contract: the packed answer, and the output.
-- Assumes nothing.
use Rattle.boardid.proofs.boardid_add.Goals as goal

pub returns : goal.returns
returns c = (rw (← c.add_field.ensures.0) c.pack_answer.ensures.made, c.add_field.ensures.1)
