-- `writer::put_field` meets its contract: the opening and the value side by side.
-- Assumes nothing.
use Prim.Native.Nat.{◌+◌}
use native.Mathlib.Omega.{arith}
use lib.ListN.{length}
use Rattle.layout.specs.Editions.{shape}
use Rattle.layout.specs.Write.{field_content}
use Rattle.output.proofs.Lengths.{capped-min}
use Rattle.writer.proofs.Entries.{entry-put}
use Rattle.writer.proofs.put_field.Goals as goal

pub overflow_add-next : goal.overflow_add-next
overflow_add-next c = let a = c.args in
    omega (arith, c.requires.out_len_bound, capped-min (length ((shape a.format).opening a.x.code c.field_key-key.result.now)))

pub overflow_add-result : goal.overflow_add-result
overflow_add-result c = let a = c.args in
    let value = c.field_value-value.result.now in
    omega (
      arith,
      c.requires.out_len_bound,
      capped-min (length ((shape a.format).opening a.x.code c.field_key-key.result.now)),
      capped-min (length ((shape a.format).lens a.x.code (length value)) + length value),
    )

pub returns : goal.returns
returns c = let a = c.args in
    entry-put (shape a.format) (field_content (shape a.format) a.values.now a.x) a.out.now a.at c.requires.puttable c.requires.out_len_bound.0 c.requires.out_len_bound.1
    c.field_key-key.ensures c.field_value-value.ensures c.opening_length.ensures c.put_opening.ensures c.put_value.ensures c.value_length.ensures
