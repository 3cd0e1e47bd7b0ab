-- `boardid::boardid_remove` meets its contract: the packed answer, and the output.
-- Assumes nothing.
use Rattle.boardid.proofs.boardid_remove.Goals as goal

pub returns : goal.returns
returns c = (rw (← c.remove_entry.ensures.0) c.pack_answer.ensures.made, c.remove_entry.ensures.1)
