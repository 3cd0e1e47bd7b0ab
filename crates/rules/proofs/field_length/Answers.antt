-- `rules::field_length` meets its contract: the cut-off sum of what opens the entry and of its value.
-- Assumes nothing.
use Rattle.layout.specs.Editions.{shape}
use Rattle.layout.specs.Write.{field_content}
use Rattle.rules.proofs.Judging.{entry_length}
use Rattle.rules.proofs.field_length.Goals as goal

pub returns : goal.returns
returns c = let a = c.args in
    entry_length (shape a.format) (field_content (shape a.format) a.values.now a.x) c.opening_length.result c.value_length.result c.add_capped.result
    (rw c.field_key-key.ensures at c.opening_length.ensures) (rw c.field_value-value.ensures at c.value_length.ensures) c.add_capped.ensures
