-- `boardid::boardid_string` meets its contract: the packed answer.
-- Assumes nothing.
use Rattle.boardid.proofs.boardid_string.Goals as goal

pub returns : goal.returns
returns c = rw (← c.string_part.ensures) c.pack_located.ensures
