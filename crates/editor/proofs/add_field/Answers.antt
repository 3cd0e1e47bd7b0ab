-- `editor::add_field` meets its contract: the image that is taken, the first field, 13, 14, 7, 8, and the image of the entries with the new one.
-- Assumes nothing.
use Prim.Native.Nat.{ℕ}
use mathlib.Core.Path.{ap₂, sym, ◌∙◌}
use mathlib.Core.List.{List, []}
use native.Mathlib.Omega.{arith}
use Rattle.layout.specs.Bytes.{part}
use Rattle.layout.specs.Editions.{shape}
use Rattle.layout.specs.Write.{field_at, fields_in, field_content, entry_bytes, image_of, put}
use Rattle.layout.specs.Add.{addition}
use Rattle.layout.proofs.Outcomes.{outcome, outcome-as}
use Rattle.layout.proofs.Passed.{passed}
use Rattle.laws.proofs.Names.{named-byte}
use Rattle.laws.proofs.Writing.{writer-parts}
use Rattle.editor.specs.Here.{spliced_at}
use Rattle.editor.proofs.Changes.{change-refused, over-inside}
use Rattle.editor.proofs.Adding.{add-ready, add-none, goes-within, add-outside, add-unnamed, add-unruled, add-new}
use Rattle.editor.proofs.add_field.Goals as goal

pub returns-in_err-room : goal.returns-in_err-room
returns-in_err-room c = let a = c.args in
    rw (passed c.from_residual.result c.from_residual.ensures.1) (outcome (change-refused (addition (fields_in a.field.now) a.values.now) a.format a.edition a.image.now a.out.now c.in_err-room.field-0.0 (sym c.take_for.ensures ∙ c.in_err-room.was)))

pub returns-then-count_fields-eq0 : goal.returns-then-count_fields-eq0
returns-then-count_fields-eq0 c = let a = c.args in
    let taken = sym c.take_for.ensures ∙ c.in_ok-room.was in
    rw c.from.ensures (outcome (add-none a.format a.edition a.image.now a.out.now _ taken a.values.now (fields_in a.field.now) (sym c.count_fields.ensures ∙ c.if-count_fields-eq0.true)))

pub returns-then-not-parts_inside : goal.returns-then-not-parts_inside
returns-then-not-parts_inside c = let a = c.args in
    let taken = sym c.take_for.ensures ∙ c.in_ok-room.was in
    rw c.from-then-not-parts_inside.ensures (outcome (add-outside a.format a.edition a.image.now a.out.now _ taken a.values.now (fields_in a.field.now) (field_at []) c.field_at-x.ensures (λ z. c.if-count_fields-eq0.false (c.count_fields.ensures ∙ z)) (sym c.parts_inside.ensures ∙ c.if-not-parts_inside.true)))

pub returns-then-not-is_named : goal.returns-then-not-is_named
returns-then-not-is_named c = let a = c.args in
    let taken = sym c.take_for.ensures ∙ c.in_ok-room.was in
    rw c.from-then-not-is_named.ensures (outcome (add-unnamed a.format a.edition a.image.now a.out.now _ taken a.values.now (fields_in a.field.now) (field_at []) c.field_at-x.ensures (λ z. c.if-count_fields-eq0.false (c.count_fields.ensures ∙ z)) (sym c.parts_inside.ensures ∙ c.if-not-parts_inside.false) (sym c.is_named.ensures ∙ c.if-not-is_named.true)))

pub returns-then-not-meets_rule : goal.returns-then-not-meets_rule
returns-then-not-meets_rule c = let a = c.args in
    let taken = sym c.take_for.ensures ∙ c.in_ok-room.was in
    rw c.from-then-not-meets_rule.ensures (outcome (add-unruled a.format a.edition a.image.now a.out.now _ taken a.values.now (fields_in a.field.now) (field_at []) c.field_at-x.ensures (λ z. c.if-count_fields-eq0.false (c.count_fields.ensures ∙ z)) (sym c.parts_inside.ensures ∙ c.if-not-parts_inside.false) (sym c.is_named.ensures ∙ c.if-not-is_named.false) (sym c.meets_rule.ensures ∙ c.if-not-meets_rule.true)))

pub find_place-requires : goal.find_place-requires
find_place-requires c = let a = c.args in
    let taken = sym c.take_for.ensures ∙ c.in_ok-room.was in
    (add-ready a.format a.edition a.image.now a.out.now _ taken a.values.now).0.1

pub returns-in_default : goal.returns-in_default
returns-in_default c = let a = c.args in
    let taken = sym c.take_for.ensures ∙ c.in_ok-room.was in
    rw c.from-in_default.ensures (outcome (add-new a.format a.edition a.image.now a.out.now _ taken a.values.now (fields_in a.field.now) (field_at []) c.field_at-x.ensures (λ z. c.if-count_fields-eq0.false (c.count_fields.ensures ∙ z)) (sym c.parts_inside.ensures ∙ c.if-not-parts_inside.false) (sym c.is_named.ensures ∙ c.if-not-is_named.false) (sym c.meets_rule.ensures ∙ c.if-not-meets_rule.false) (rw c.field_key-key.ensures at (sym c.find_place.ensures ∙ c.in_default.is))))

pub slice_bounds-entries-count : goal.slice_bounds-entries-count
slice_bounds-entries-count c = let a = c.args in
    let room = c.in_ok-room.room in
    let taken = sym c.take_for.ensures ∙ c.in_ok-room.was in
    let ready = add-ready a.format a.edition a.image.now a.out.now _ taken a.values.now in
    let content = field_content (shape room.format) a.values.now c.field_at-x.result in
    omega (arith, goes-within room.format a.image.now room.start room.end room.over c.in-Some.place content ready.0.1 ready.1 (rw c.field_key-key.ensures at (sym c.find_place.ensures ∙ c.in-Some.is)), over-inside a.format a.edition a.image.now a.out.now _ taken)

pub slice_bounds-entries-start : goal.slice_bounds-entries-start
slice_bounds-entries-start c = let a = c.args in
    let room = c.in_ok-room.room in
    let taken = sym c.take_for.ensures ∙ c.in_ok-room.was in
    let ready = add-ready a.format a.edition a.image.now a.out.now _ taken a.values.now in
    let content = field_content (shape room.format) a.values.now c.field_at-x.result in
    omega (arith, goes-within room.format a.image.now room.start room.end room.over c.in-Some.place content ready.0.1 ready.1 (rw c.field_key-key.ensures at (sym c.find_place.ensures ∙ c.in-Some.is)), over-inside a.format a.edition a.image.now a.out.now _ taken)

pub slice_bounds-entries-end : goal.slice_bounds-entries-end
slice_bounds-entries-end c = let a = c.args in
    let room = c.in_ok-room.room in
    let taken = sym c.take_for.ensures ∙ c.in_ok-room.was in
    let ready = add-ready a.format a.edition a.image.now a.out.now _ taken a.values.now in
    let content = field_content (shape room.format) a.values.now c.field_at-x.result in
    omega (arith, goes-within room.format a.image.now room.start room.end room.over c.in-Some.place content ready.0.1 ready.1 (rw c.field_key-key.ensures at (sym c.find_place.ensures ∙ c.in-Some.is)), over-inside a.format a.edition a.image.now a.out.now _ taken)

pub slice_bounds-entries-count-2 : goal.slice_bounds-entries-count-2
slice_bounds-entries-count-2 c = let a = c.args in
    let room = c.in_ok-room.room in
    let taken = sym c.take_for.ensures ∙ c.in_ok-room.was in
    let ready = add-ready a.format a.edition a.image.now a.out.now _ taken a.values.now in
    let content = field_content (shape room.format) a.values.now c.field_at-x.result in
    omega (arith, goes-within room.format a.image.now room.start room.end room.over c.in-Some.place content ready.0.1 ready.1 (rw c.field_key-key.ensures at (sym c.find_place.ensures ∙ c.in-Some.is)), over-inside a.format a.edition a.image.now a.out.now _ taken)

pub slice_bounds-entries-start-2 : goal.slice_bounds-entries-start-2
slice_bounds-entries-start-2 c = let a = c.args in
    let room = c.in_ok-room.room in
    let taken = sym c.take_for.ensures ∙ c.in_ok-room.was in
    let ready = add-ready a.format a.edition a.image.now a.out.now _ taken a.values.now in
    let content = field_content (shape room.format) a.values.now c.field_at-x.result in
    omega (arith, goes-within room.format a.image.now room.start room.end room.over c.in-Some.place content ready.0.1 ready.1 (rw c.field_key-key.ensures at (sym c.find_place.ensures ∙ c.in-Some.is)), over-inside a.format a.edition a.image.now a.out.now _ taken)

pub slice_bounds-entries-end-2 : goal.slice_bounds-entries-end-2
slice_bounds-entries-end-2 c = let a = c.args in
    let room = c.in_ok-room.room in
    let taken = sym c.take_for.ensures ∙ c.in_ok-room.was in
    let ready = add-ready a.format a.edition a.image.now a.out.now _ taken a.values.now in
    let content = field_content (shape room.format) a.values.now c.field_at-x.result in
    omega (arith, goes-within room.format a.image.now room.start room.end room.over c.in-Some.place content ready.0.1 ready.1 (rw c.field_key-key.ensures at (sym c.find_place.ensures ∙ c.in-Some.is)), over-inside a.format a.edition a.image.now a.out.now _ taken)

pub put-requires : goal.put-requires
put-requires c = let a = c.args in
    let room = c.in_ok-room.room in
    let taken = sym c.take_for.ensures ∙ c.in_ok-room.was in
    let content = field_content (shape room.format) a.values.now c.field_at-x.result in
    ((add-ready a.format a.edition a.image.now a.out.now _ taken a.values.now).0.0, (named-byte room.format a.edition c.field_at-x.result.code (sym c.is_named.ensures ∙ c.if-not-is_named.false), rw c.field_value-value.ensures (writer-parts (shape room.format) content (sym c.meets_rule.ensures ∙ c.if-not-meets_rule.false)).1))

pub returns : goal.returns
unfolding part entry_bytes
returns c = let a = c.args in
    let room = c.in_ok-room.room in
    let taken = sym c.take_for.ensures ∙ c.in_ok-room.was in
    let S = shape room.format in
    let at = c.in-Some.place in
    let new =
    ap₂ (λ (k v : List ℕ). put S (image_of S (spliced_at (entry_bytes S (record { code = c.field_at-x.result.code; key = k; value = v })) a.image.now room.start at at room.over)) a.out.now)
    c.field_key-key.ensures c.field_value-value.ensures in
    outcome-as c.put.ensures (add-new a.format a.edition a.image.now a.out.now _ taken a.values.now (fields_in a.field.now) (field_at []) c.field_at-x.ensures (λ z. c.if-count_fields-eq0.false (c.count_fields.ensures ∙ z)) (sym c.parts_inside.ensures ∙ c.if-not-parts_inside.false) (sym c.is_named.ensures ∙ c.if-not-is_named.false) (sym c.meets_rule.ensures ∙ c.if-not-meets_rule.false) (rw c.field_key-key.ensures at (sym c.find_place.ensures ∙ c.in-Some.is)) ∙ sym new)
