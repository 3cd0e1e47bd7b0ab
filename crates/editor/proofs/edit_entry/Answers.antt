-- `editor::edit_entry` meets its contract: the image that is taken, the entry that is found in it, 14, 7, and the image of the entries with the new value.
-- Assumes nothing.
use mathlib.Core.Path.{sym, ◌∙◌}
use native.Mathlib.Omega.{arith}
use lib.ListN.{length}
use Rattle.layout.specs.Bytes.{part}
use Rattle.layout.specs.Edit.{edit}
use Rattle.layout.proofs.Outcomes.{outcome, outcome-as}
use Rattle.layout.proofs.Passed.{passed}
use Rattle.editor.proofs.Changes.{taken_is, change-refused, here-within, edit-nowhere, edit-unnamed, edit-length, edit-value, edit-put}
use Rattle.editor.proofs.edit_entry.Goals.{then-not-length_rule-via-then-not-length_rule, then-not-length_rule-via-else-not-length_rule+then-not-value_rule}
use Rattle.editor.proofs.edit_entry.Goals as goal

pub returns-in_err-room : goal.returns-in_err-room
returns-in_err-room c = let a = c.args in
    rw (passed c.from_residual.result c.from_residual.ensures.1) (outcome (change-refused (edit a.i a.value.now) a.format a.edition a.image.now a.out.now c.in_err-room.field-0.0 (sym c.take_for.ensures ∙ c.in_err-room.was)))

pub returns-in_default : goal.returns-in_default
returns-in_default c = let a = c.args in
    let taken = sym c.take_for.ensures ∙ c.in_ok-room.was in
    rw c.from.ensures (outcome (edit-nowhere a.format a.edition a.image.now a.out.now _ taken a.i a.value.now (sym c.find_frame.ensures ∙ c.in_default.is)))

pub returns-then-not-is_named : goal.returns-then-not-is_named
returns-then-not-is_named c = let a = c.args in
    let taken = sym c.take_for.ensures ∙ c.in_ok-room.was in
    let spot = sym c.find_frame.ensures ∙ c.in-Some.is in
    rw c.at.ensures (outcome (edit-unnamed a.format a.edition a.image.now a.out.now _ taken a.i a.value.now spot (sym c.is_named.ensures ∙ c.if-not-is_named.true)))

pub returns-then-not-length_rule : goal.returns-then-not-length_rule
returns-then-not-length_rule c = let a = c.args in
    let taken = sym c.take_for.ensures ∙ c.in_ok-room.was in
    let spot = sym c.find_frame.ensures ∙ c.in-Some.is in
    let named = sym c.is_named.ensures ∙ c.if-not-is_named.false in
    rw c.at-then-not-length_rule.ensures
    (elim c.then-not-length_rule.branch [
      | then-not-length_rule-via-then-not-length_rule w ↦ outcome (edit-length a.format a.edition a.image.now a.out.now _ taken a.i a.value.now spot named (sym c.length_rule.ensures ∙ w.if-not-length_rule.true))
      | then-not-length_rule-via-else-not-length_rule+then-not-value_rule w ↦
          outcome (edit-value a.format a.edition a.image.now a.out.now _ taken a.i a.value.now spot named (sym c.length_rule.ensures ∙ w.if-not-length_rule.false) (sym w.value_rule.ensures ∙ w.if-not-value_rule.true))
    ])

pub overflow_add-entries : goal.overflow_add-entries
overflow_add-entries c = let a = c.args in
    let taken = sym c.take_for.ensures ∙ c.in_ok-room.was in
    let w = here-within a.format a.edition a.image.now a.out.now _ taken a.i _ _ (sym c.find_frame.ensures ∙ c.in-Some.is) in
    omega (arith, w.begins, w.opens, w.ends, w.inside, c.well_formed)

pub slice_bounds-entries-count : goal.slice_bounds-entries-count
slice_bounds-entries-count c = let a = c.args in
    let taken = sym c.take_for.ensures ∙ c.in_ok-room.was in
    let w = here-within a.format a.edition a.image.now a.out.now _ taken a.i _ _ (sym c.find_frame.ensures ∙ c.in-Some.is) in
    omega (arith, w.begins, w.opens, w.ends, w.inside, c.well_formed)

pub slice_bounds-entries-start : goal.slice_bounds-entries-start
slice_bounds-entries-start c = let a = c.args in
    let taken = sym c.take_for.ensures ∙ c.in_ok-room.was in
    let w = here-within a.format a.edition a.image.now a.out.now _ taken a.i _ _ (sym c.find_frame.ensures ∙ c.in-Some.is) in
    omega (arith, w.begins, w.opens, w.ends, w.inside, c.well_formed)

pub slice_bounds-entries-end : goal.slice_bounds-entries-end
slice_bounds-entries-end c = let a = c.args in
    let taken = sym c.take_for.ensures ∙ c.in_ok-room.was in
    let w = here-within a.format a.edition a.image.now a.out.now _ taken a.i _ _ (sym c.find_frame.ensures ∙ c.in-Some.is) in
    omega (arith, w.begins, w.opens, w.ends, w.inside, c.well_formed)

pub overflow_add-entries-2 : goal.overflow_add-entries-2
overflow_add-entries-2 c = let a = c.args in
    let taken = sym c.take_for.ensures ∙ c.in_ok-room.was in
    let w = here-within a.format a.edition a.image.now a.out.now _ taken a.i _ _ (sym c.find_frame.ensures ∙ c.in-Some.is) in
    omega (arith, w.begins, w.opens, w.ends, w.inside, c.well_formed)

pub slice_bounds-entries-count-2 : goal.slice_bounds-entries-count-2
slice_bounds-entries-count-2 c = let a = c.args in
    let taken = sym c.take_for.ensures ∙ c.in_ok-room.was in
    let w = here-within a.format a.edition a.image.now a.out.now _ taken a.i _ _ (sym c.find_frame.ensures ∙ c.in-Some.is) in
    omega (arith, w.begins, w.opens, w.ends, w.inside, c.well_formed)

pub slice_bounds-entries-start-2 : goal.slice_bounds-entries-start-2
slice_bounds-entries-start-2 c = let a = c.args in
    let taken = sym c.take_for.ensures ∙ c.in_ok-room.was in
    let w = here-within a.format a.edition a.image.now a.out.now _ taken a.i _ _ (sym c.find_frame.ensures ∙ c.in-Some.is) in
    omega (arith, w.begins, w.opens, w.ends, w.inside, c.well_formed)

pub slice_bounds-entries-end-2 : goal.slice_bounds-entries-end-2
slice_bounds-entries-end-2 c = let a = c.args in
    let taken = sym c.take_for.ensures ∙ c.in_ok-room.was in
    let w = here-within a.format a.edition a.image.now a.out.now _ taken a.i _ _ (sym c.find_frame.ensures ∙ c.in-Some.is) in
    omega (arith, w.begins, w.opens, w.ends, w.inside, c.well_formed)

pub put-requires : goal.put-requires
put-requires c = let a = c.args in
    let taken = sym c.take_for.ensures ∙ c.in_ok-room.was in
    ((taken_is (length a.out.now) a.format a.edition a.image.now taken).0, (sym c.length_rule.ensures ∙ c.if-not-length_rule.false))

pub returns : goal.returns
unfolding part
returns c = let a = c.args in
    let taken = sym c.take_for.ensures ∙ c.in_ok-room.was in
    let spot = sym c.find_frame.ensures ∙ c.in-Some.is in
    outcome-as c.put.ensures (edit-put a.format a.edition a.image.now a.out.now _ taken a.i a.value.now spot (sym c.is_named.ensures ∙ c.if-not-is_named.false) (sym c.length_rule.ensures ∙ c.if-not-length_rule.false) (sym c.value_rule.ensures ∙ c.if-not-value_rule.false))
