-- `boardid::boardid_room_remove` meets its contract: the packed answer, and the output.
-- Assumes nothing.
use Rattle.boardid.proofs.boardid_room_remove.Goals as goal

pub returns : goal.returns
returns c = (rw (← c.remove_board.ensures.0) c.pack_answer.ensures.made, c.remove_board.ensures.1)
