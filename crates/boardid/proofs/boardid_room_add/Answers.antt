-- `boardid::boardid_room_add` meets its contract: the packed answer, and the output.
-- Assumes nothing.
use Rattle.boardid.proofs.boardid_room_add.Goals as goal

pub returns : goal.returns
returns c = (rw (← c.add_board.ensures.0) c.pack_answer.ensures.made, c.add_board.ensures.1)
