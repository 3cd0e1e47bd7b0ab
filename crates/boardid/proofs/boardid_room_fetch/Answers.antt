-- `boardid::boardid_room_fetch` meets its contract: the packed answer.
-- Assumes nothing.
use Rattle.boardid.proofs.boardid_room_fetch.Goals as goal

pub returns : goal.returns
returns c = rw (← c.fetch_board.ensures) c.pack_located.ensures
