-- `boardid::boardid_room_replace` meets its contract: the packed answer, and the output.
-- Assumes nothing.
use Rattle.boardid.proofs.boardid_room_replace.Goals as goal

pub returns : goal.returns
returns c = (rw (← c.replace_board.ensures.0) c.pack_answer.ensures.made, c.replace_board.ensures.1)
