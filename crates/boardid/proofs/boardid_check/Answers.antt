-- `boardid::boardid_check` meets its contract: the packed answer.
-- Assumes nothing.
use Rattle.boardid.proofs.boardid_check.Goals as goal

pub returns : goal.returns
returns c = rw (← c.check_image.ensures) c.pack_answer.ensures.checked
