-- `output::put_value` meets its contract: the tests, and what is written where they pass.
-- Assumes nothing.
use mathlib.Core.Path.{sym, ◌∙◌}
use Rattle.output.proofs.Rooms.{room-known, room-is, value-copied, value-nowhere, value_not}
use Rattle.output.proofs.put_value.Goals.{else-length_rule-via-then-length_rule+else-has_room, else-length_rule-via-else-length_rule}
use Rattle.output.proofs.put_value.Goals as goal

pub write_value-requires : goal.write_value-requires
write_value-requires c = record { v_value = sym c.length_rule.ensures ∙ c.if-length_rule.true; out_len_bound = room-known _ _ _ (room-is _ _ _ c.value_length.ensures c.has_room.ensures c.if-has_room.true) }

pub returns-then-has_room : goal.returns-then-has_room
returns-then-has_room c = c.write_value.ensures ∙
    sym
    (value-copied _ _ _ _ _ (sym c.length_rule.ensures ∙ c.if-length_rule.true)
    (room-known _ _ _ (sym c.has_room.ensures ∙ c.if-has_room.true)).0)

pub returns-else-length_rule : goal.returns-else-length_rule
returns-else-length_rule c = elim c.else-length_rule.branch [
  | else-length_rule-via-then-length_rule+else-has_room w ↦ value-nowhere _ _ _ _ _ (room-is _ _ _ w.value_length.ensures w.has_room.ensures w.if-has_room.false)
  | else-length_rule-via-else-length_rule w ↦ value_not _ _ _ _ _ (sym c.length_rule.ensures ∙ w.if-length_rule.false)
]
