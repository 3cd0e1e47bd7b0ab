-- `output::put_opening` meets its contract: the tests, and what is written where they pass.
-- Assumes nothing.
use mathlib.Core.Path.{sym, ◌∙◌}
use borrow.Author.Rules.{rules}
use Rattle.output.proofs.Rooms.{room-known, room-is, opening-copied, opening-nowhere, opening-not}
use Rattle.output.proofs.put_opening.Goals.{else-code-lt256-via-then-code-lt256+else-has_room, else-code-lt256-via-else-code-lt256}
use Rattle.output.proofs.put_opening.Goals as goal

pub write_opening-requires : goal.write_opening-requires
write_opening-requires c = record { code_bound = search rules; out_len_bound = room-known _ _ _ (room-is _ _ _ c.opening_length.ensures c.has_room.ensures c.if-has_room.true) }

pub returns-then-has_room : goal.returns-then-has_room
returns-then-has_room c = c.write_opening.ensures ∙ sym (opening-copied _ _ _ _ _ c.if-code-lt256.true (room-known _ _ _ (sym c.has_room.ensures ∙ c.if-has_room.true)).0)

pub returns-else-code-lt256 : goal.returns-else-code-lt256
returns-else-code-lt256 c = elim c.else-code-lt256.branch [
  | else-code-lt256-via-then-code-lt256+else-has_room w ↦ opening-nowhere _ _ _ _ _ (room-is _ _ _ w.opening_length.ensures w.has_room.ensures w.if-has_room.false)
  | else-code-lt256-via-else-code-lt256 w ↦ opening-not _ _ _ _ _ w.if-code-lt256.false
]
