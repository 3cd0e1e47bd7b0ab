-- `boardid::give_entry` meets its contract: a refusal, no room, or the record.
-- Assumes nothing.
use mathlib.Core.Path.{◌≡◌, ap, sym, ◌∙◌}
use Rattle.std.specs.Prelude.{Ok, Err}
use Rattle.layout.specs.Calls.{entry_at}
use Rattle.records.specs.Exports.{Given}
use Rattle.boardid.proofs.Giving.{refused-as, handed-as, none-recorded, not-recorded, is-recorded, entry-is}
use borrow.Author.Rules.{rules}
use Rattle.boardid.proofs.give_entry.Goals as goal

pub returns-then-out-lt64 : goal.returns-then-out-lt64
returns-then-out-lt64 c = let a = c.args in
    let l = entry_at a.format a.edition a.image.now a.n in
    let q : l ≡ Ok c.in_ok-entry.entry = sym c.entry_at.ensures ∙ c.in_ok-entry.was in
    let z = entry-is a.format a.edition a.image.now a.n a.out.now ∙ not-recorded a.edition a.out.now _ l q (search rules) in
    (refused-as c.from.ensures ∙ sym (ap (λ (g : Given). g.answer) z), sym (ap (λ (g : Given). g.memory) z))

pub returns-in_err-entry : goal.returns-in_err-entry
returns-in_err-entry c = let a = c.args in
    let l = entry_at a.format a.edition a.image.now a.n in
    let q : l ≡ Err c.in_err-entry.field-0.0 = sym c.entry_at.ensures ∙ c.in_err-entry.was in
    let z = entry-is a.format a.edition a.image.now a.n a.out.now ∙ none-recorded a.edition a.out.now _ l q in
    (handed-as c.from_residual.result _ c.from_residual.ensures.1 ∙ sym (ap (λ (g : Given). g.answer) z), sym (ap (λ (g : Given). g.memory) z))

pub returns : goal.returns
returns c = let a = c.args in
    let l = entry_at a.format a.edition a.image.now a.n in
    let q : l ≡ Ok c.in_ok-entry.entry = sym c.entry_at.ensures ∙ c.in_ok-entry.was in
    let z = entry-is a.format a.edition a.image.now a.n a.out.now ∙ is-recorded a.edition a.out.now _ l q (search rules) in
    (sym (ap (λ (g : Given). g.answer) z), c.put_record.ensures ∙ sym (ap (λ (g : Given). g.memory) z))
