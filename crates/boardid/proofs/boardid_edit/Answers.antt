-- `boardid::boardid_edit` meets its contract: the packed answer, and the output.
-- Assumes nothing.
use Rattle.boardid.proofs.boardid_edit.Goals as goal

pub returns : goal.returns
returns c = (rw (← c.edit_entry.ensures.0) c.pack_answer.ensures.made, c.edit_entry.ensures.1)
