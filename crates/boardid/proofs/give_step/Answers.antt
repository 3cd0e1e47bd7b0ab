-- `boardid::give_step` meets its contract: a refusal, no room, or the record and the walk moved on.
-- Assumes nothing.
use Prim.Native.Nat.{ℕ, ◌/◌}
use mathlib.Core.Path.{◌≡◌, ap, sym, ◌∙◌}
use mathlib.Core.List.{[], ◌∷◌}
use Rattle.std.specs.Prelude.{Ok, Err}
use Rattle.output.specs.Placing.{copied}
use Rattle.reader.specs.declared.Walk.{Walk}
use Rattle.reader.specs.declared.Stepped.{Stepped}
use Rattle.reader.specs.Walk.{step_walk}
use Rattle.records.specs.Words.{words_bytes, record_bytes}
use Rattle.records.specs.Exports.{Moved, walk_format, walk_edition, walk_entry}
use Rattle.boardid.proofs.Giving.{refused-as, handed-as, steps_to, step-refused, step-short, step_given}
use borrow.Author.Rules.{rules}
use Rattle.boardid.proofs.give_step.Goals as goal

pub returns-then-out-lt64 : goal.returns-then-out-lt64
returns-then-out-lt64 c = let a = c.args in
    let w = a.walk.now in
    let img = a.image.now in
    let e : c.step-s.result ≡ step_walk (record { format = walk_format w; edition = walk_edition w; entry = walk_entry w }) img = c.step-s.ensures ∙ ap (λ (v : Walk). step_walk v img) c.walk_in-w.ensures in
    let q : (steps_to w img).answer ≡ Ok c.in_ok-entry.entry = sym (ap (λ (t : Stepped). t.answer) e) ∙ c.in_ok-entry.was in
    let z = step-short w img a.out.now _ q (search rules) in
    (refused-as c.from.ensures ∙ sym (ap (λ (g : Moved). g.answer) z), sym (ap (λ (g : Moved). g.walk) z), sym (ap (λ (g : Moved). g.memory) z))

pub returns-in_err-entry : goal.returns-in_err-entry
returns-in_err-entry c = let a = c.args in
    let w = a.walk.now in
    let img = a.image.now in
    let e : c.step-s.result ≡ step_walk (record { format = walk_format w; edition = walk_edition w; entry = walk_entry w }) img = c.step-s.ensures ∙ ap (λ (v : Walk). step_walk v img) c.walk_in-w.ensures in
    let q : (steps_to w img).answer ≡ Err c.in_err-entry.field-0.0 = sym (ap (λ (t : Stepped). t.answer) e) ∙ c.in_err-entry.was in
    let z = step-refused w img a.out.now _ q in
    (handed-as c.from_residual.result _ c.from_residual.ensures.1 ∙ sym (ap (λ (g : Moved). g.answer) z), sym (ap (λ (g : Moved). g.walk) z), sym (ap (λ (g : Moved). g.memory) z))

pub returns : goal.returns
returns c = let a = c.args in
    let w = a.walk.now in
    let img = a.image.now in
    let e : c.step-s.result ≡ step_walk (record { format = walk_format w; edition = walk_edition w; entry = walk_entry w }) img = c.step-s.ensures ∙ ap (λ (v : Walk). step_walk v img) c.walk_in-w.ensures in
    let q : (steps_to w img).answer ≡ Ok c.in_ok-entry.entry = sym (ap (λ (t : Stepped). t.answer) e) ∙ c.in_ok-entry.was in
    let z = step_given w img a.out.now _ q (search rules) in
    let edition : c.walk_in-w.result.edition ≡ walk_edition w = ap (λ (v : Walk). v.edition) c.walk_in-w.ensures in
    let n : c.step-s.result.next.entry ≡ (steps_to w img).next = ap (λ (t : Stepped). t.next.entry) e in
    (sym (ap (λ (g : Moved). g.answer) z), c.put_long.ensures ∙ ap (λ (k : ℕ). copied w 8 (words_bytes (k ∷ k / 4294967296 ∷ []))) n ∙ sym (ap (λ (g : Moved). g.walk) z), c.put_record.ensures ∙ ap (λ (k : ℕ). copied a.out.now 0 (record_bytes k c.in_ok-entry.entry)) edition ∙ sym (ap (λ (g : Moved). g.memory) z))
