-- `rules::judge_all` meets its contract: the judgement of all fields is that of those to do, after those passed, whose keys the filter knows.
-- Assumes nothing.
use mathlib.Core.Path.{◌≡◌, refl, ap, sym, ◌∙◌}
use Rattle.std.specs.Prelude.{Err}
use Rattle.layout.specs.Editions.{shape}
use Rattle.layout.specs.Write.{field_key, fields_in}
use Rattle.keys.specs.Filter.{with_key}
use Rattle.keys.proofs.Seen.{kept-length}
use Rattle.rules.proofs.Judging.{judging-first, key-unseen, judged-fault, fault-byte, judging-on, judged-end}
use Rattle.rules.proofs.judge_all.Goals as goal

pub loop-i-init : goal.loop-i-init
loop-i-init c = let a = c.args in
    (refl, judging-first a.format a.edition (fields_in a.fields.now) a.values.now a.filter.now)

pub field_fault-requires-clause-values_value : goal.field_fault-requires-clause-values_value
field_fault-requires-clause-values_value c =
    key-unseen c.loop-i.invariant.1 c.field_at-x.result (rw c.field_key-key.ensures at c.note_key-known.ensures.0)

pub returns-in-Some : goal.returns-in-Some
returns-in-Some c =
    ap Err c.at.ensures ∙ judged-fault c.loop-i.invariant.1 c.field_at-x.result c.field_at-x.ensures (rw c.count_fields-i-end.ensures at c.loop-i-test.true) c.in-Some.ensures

pub bounds-seen-x : goal.bounds-seen-x
bounds-seen-x c =
    fault-byte c.loop-i.invariant.1 c.field_at-x.result c.field_at-x.ensures (rw c.count_fields-i-end.ensures at c.loop-i-test.true) c.in_default.ensures

pub loop-i-preserved : goal.loop-i-preserved
loop-i-preserved c = let a = c.args in
    let l = c.loop-i in
    let x = c.field_at-x.result in
    let key = field_key (shape a.format).keyed x a.values.now in
    let words : c.note_key-known.new.filter ≡ with_key l.filter x.code key = rw c.field_key-key.ensures at c.note_key-known.ensures.1 in
    rw (c.is_last-shut.ensures, words) (
      kept-length l.filter x.code key ∙ l.invariant.0,
      judging-on l.invariant.1 x c.field_at-x.ensures (rw c.count_fields-i-end.ensures at c.loop-i-test.true) c.in_default.ensures c.field_length.ensures c.add_capped-total.ensures,
    )

pub returns-then-not-is_complete : goal.returns-then-not-is_complete
returns-then-not-is_complete c = rw c.from.ensures
    (sym (judged-end c.loop-i.invariant.1 (rw c.count_fields-i-end.ensures at c.loop-i-test.false) (sym c.if-not-is_complete.true ∙ c.is_complete.ensures)))

pub returns : goal.returns
returns c =
    sym (judged-end c.loop-i.invariant.1 (rw c.count_fields-i-end.ensures at c.loop-i-test.false) (sym c.if-not-is_complete.false ∙ c.is_complete.ensures))
