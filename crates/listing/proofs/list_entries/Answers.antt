-- `listing::list_entries` meets its contract: a refusal, too few records, or all entries.
-- Assumes nothing.
use mathlib.Core.Path.{◌≡◌, ap, sym, ◌∙◌}
use mathlib.Core.List.{List, ◌++◌}
use native.Mathlib.Omega.{arith}
use borrow.Author.Rules.{rules}
use lib.ListN.{drop, length-take}
use Rattle.std.specs.Prelude.{Ok, Err}
use Rattle.layout.specs.declared.Entry.{Entry}
use Rattle.layout.specs.declared.Refusal.{Refusal}
use Rattle.layout.specs.Calls.{Listed}
use Rattle.layout.proofs.Passed.{passed}
use Rattle.accept.specs.Taken.{taken}
use Rattle.listing.proofs.Filling.{filling-starts, filling-goes, filling-over, filling-full}
use Rattle.listing.proofs.Giving.{list-refused, list-given, list-short, list-fills}
use Rattle.listing.proofs.list_entries.Goals as goal

pub returns-in_err-room : goal.returns-in_err-room
returns-in_err-room c = let a = c.args in
    let q : taken a.format a.edition a.image.now ≡ Err c.in_err-room.field-0.0 = search rules in
    let z = list-refused a.format a.edition a.image.now a.records.now q in
    (passed c.from_residual.result c.from_residual.ensures.1 ∙ sym (ap (λ (x : Listed). x.answer) z), sym (ap (λ (x : Listed). x.records) z))

pub returns-then-records-room : goal.returns-then-records-room
returns-then-records-room c = let a = c.args in
    let q : taken a.format a.edition a.image.now ≡ Ok c.in_ok-room.room = search rules in
    let z = list-short a.format a.edition a.image.now a.records.now q c.if-records-room.true in
    (ap (λ (r : Refusal). Err r) c.from.ensures ∙ sym (ap (λ (x : Listed). x.answer) z), sym (ap (λ (x : Listed). x.records) z))

pub loop-record-init : goal.loop-record-init
loop-record-init c = let a = c.args in
    let q : taken a.format a.edition a.image.now ≡ Ok c.in_ok-room.room = search rules in
    filling-starts _ _ _ _ _ _ (list-given a.format a.edition a.image.now a.records.now q).done

pub loop-record-preserved : goal.loop-record-preserved
loop-record-preserved c = filling-goes c.loop-record.invariant c.in-Some.here (omega arith) (search rules)

pub returns-after-loop-record : goal.returns-after-loop-record
returns-after-loop-record c = let a = c.args in
    let n = c.in_ok-room.room.count in
    let q : taken a.format a.edition a.image.now ≡ Ok c.in_ok-room.room = search rules in
    let many = (list-given a.format a.edition a.image.now a.records.now q).many in
    let z = list-fills a.format a.edition a.image.now a.records.now q c.if-records-room.false in
    let full = filling-full c.loop-record.invariant (omega (arith, many, length-take n a.records.now)) (omega arith) in
    (sym (ap (λ (x : Listed). x.answer) z), ap (λ (l : List Entry). l ++ drop n a.records.now) full ∙ sym (ap (λ (x : Listed). x.records) z))

pub returns-in_default : goal.returns-in_default
returns-in_default c = let a = c.args in
    let n = c.in_ok-room.room.count in
    let q : taken a.format a.edition a.image.now ≡ Ok c.in_ok-room.room = search rules in
    let many = (list-given a.format a.edition a.image.now a.records.now q).many in
    let over = filling-over c.loop-record.invariant (search rules) in
    absurd (omega (arith, over, many, length-take n a.records.now))
