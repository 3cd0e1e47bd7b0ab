-- `boardid::boardid_value` meets its contract: the packed answer.
-- Assumes nothing.
use Rattle.boardid.proofs.boardid_value.Goals as goal

pub returns : goal.returns
returns c = rw (← c.value_part.ensures) c.pack_located.ensures
