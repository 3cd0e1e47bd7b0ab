-- `writer::put_fields` meets its contract: an entry for each field, where the one before it ends.
-- Assumes nothing.
use Prim.Native.Nat.{◌<◌}
use mathlib.Core.List.{[]}
use native.Mathlib.Omega.{arith}
use lib.ListN.{length}
use Rattle.layout.specs.Editions.{shape}
use Rattle.layout.specs.Write.{field_at, fields_in}
use Rattle.writer.proofs.Entries.{puttable-at, putting-first, putting-length, putting-room, putting-on, putting-done}
use Rattle.writer.proofs.put_fields.Goals as goal

pub loop-i-init : goal.loop-i-init
loop-i-init c = let a = c.args in
    putting-first (shape a.format) a.values.now a.fields.now a.out.now a.start c.requires.out_len_bound.1

pub put_field-at-requires : goal.put_field-at-requires
put_field-at-requires c = let a = c.args in
    let l = c.loop-i in
    let lt : l.i < length (fields_in a.fields.now) = omega (arith, c.count_fields-i-end.ensures) in
    let S = shape a.format in
    let values = a.values.now in
    let room = putting-room S values a.fields.now a.out.now a.start c.requires.out_len_bound.1 l.out l.at l.i l.invariant lt in
    let long = putting-length S values a.fields.now a.out.now a.start c.requires.out_len_bound.1 l.out l.at l.i l.invariant in rw c.field_at.ensures (record { puttable = puttable-at S values (fields_in a.fields.now) l.i (field_at []) c.requires.all_puttable lt; out_len_bound = (omega (arith, c.requires.out_len_bound.0), room) })

pub loop-i-preserved : goal.loop-i-preserved
loop-i-preserved c = let a = c.args in
    let l = c.loop-i in
    let lt : l.i < length (fields_in a.fields.now) = omega (arith, c.count_fields-i-end.ensures) in
    putting-on (shape a.format) a.values.now a.fields.now a.out.now a.start c.requires.out_len_bound.1 l.out l.at l.i l.invariant lt
    (rw c.field_at.ensures at c.put_field-at.ensures.0) (rw c.field_at.ensures at c.put_field-at.ensures.1)

pub shape_of-out : goal.shape_of-out
shape_of-out c = putting-length _ _ _ _ _ c.requires.out_len_bound.1 _ _ _ c.loop-i.invariant

pub returns : goal.returns
returns c = let a = c.args in
    let l = c.loop-i in
    putting-done (shape a.format) a.values.now a.fields.now a.out.now a.start c.requires.out_len_bound.1 l.out l.at l.i l.invariant (omega (arith, c.count_fields-i-end.ensures))
