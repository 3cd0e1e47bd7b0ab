-- `boardid::boardid_write` meets its contract: the packed answer, and the output.
-- Assumes nothing.
use Rattle.boardid.proofs.boardid_write.Goals as goal

pub returns : goal.returns
returns c = (rw (← c.write_image.ensures.0) c.pack_answer.ensures.made, c.write_image.ensures.1)
