-- `boardid::give_list` meets its contract: a refusal, no room, or all records.
-- Assumes nothing.
use mathlib.Core.Path.{◌≡◌, ap, sym, ◌∙◌}
use Rattle.std.specs.Prelude.{Ok, Err}
use Rattle.accept.specs.Taken.{taken}
use Rattle.records.specs.Exports.{Given}
use Rattle.boardid.proofs.Giving.{refused-as, handed-as, list-refused, list-short, list-fills}
use borrow.Author.Rules.{rules}
use Rattle.boardid.proofs.give_list.Goals as goal

pub returns-then-out-room : goal.returns-then-out-room
returns-then-out-room c = let a = c.args in
    let q : taken a.format a.edition a.image.now ≡ Ok c.in_ok-room.room = sym c.take_image.ensures ∙ c.in_ok-room.was in
    let z = list-short a.format a.edition a.image.now a.out.now _ q (search rules) in
    (refused-as c.from.ensures ∙ sym (ap (λ (g : Given). g.answer) z), sym (ap (λ (g : Given). g.memory) z))

pub put_records-requires : goal.put_records-requires
put_records-requires c = let a = c.args in
    let q : taken a.format a.edition a.image.now ≡ Ok c.in_ok-room.room = sym c.take_image.ensures ∙ c.in_ok-room.was in
    let w = list-fills a.format a.edition a.image.now a.out.now _ q (search rules) in
    (w.done, w.room_enough)

pub returns-in_err-room : goal.returns-in_err-room
returns-in_err-room c = let a = c.args in
    let q : taken a.format a.edition a.image.now ≡ Err c.in_err-room.field-0.0 = sym c.take_image.ensures ∙ c.in_err-room.was in
    let z = list-refused a.format a.edition a.image.now a.out.now _ q in
    (handed-as c.from_residual.result _ c.from_residual.ensures.1 ∙ sym (ap (λ (g : Given). g.answer) z), sym (ap (λ (g : Given). g.memory) z))

pub returns : goal.returns
returns c = let a = c.args in
    let q : taken a.format a.edition a.image.now ≡ Ok c.in_ok-room.room = sym c.take_image.ensures ∙ c.in_ok-room.was in
    let z = (list-fills a.format a.edition a.image.now a.out.now _ q (search rules)).is in
    (sym (ap (λ (g : Given). g.answer) z), c.put_records.ensures ∙ sym (ap (λ (g : Given). g.memory) z))
