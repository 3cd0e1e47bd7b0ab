-- `onie::is_formed` meets its contract: as many bytes, and a test of each pair.
-- Assumes nothing.
use Rattle.std.proofs.Common.{rules, tests, ◌≡◌, true, false}
use borrow.Author.Tests.{eq-eqb, ne_eqb}
use Rattle.std.proofs.lemmas.Iterator.{YieldsList-from_slice, YieldsList-from_zip, cases_from_all}
use Rattle.layout.specs.Onie.{fits_form}
use Rattle.onie.proofs.Forms.{formed_pairs, tested}
use Rattle.onie.proofs.is_formed.Goals as goal

pub returns-then-form-v : goal.returns-then-form-v
returns-then-form-v c = let a = c.args in
    rw (formed_pairs a.form.now a.v.now, eq-eqb _ _ c.if-form-v.true)
    (tested (λ p. fits_form p.0 p.1) _ _
    (cases_from_all c.all.new.self _ _ (λ p. fits_form p.0 p.1 ≡ true) (λ p. fits_form p.0 p.1 ≡ false) c.all.ensures.ran
    (YieldsList-from_zip (YieldsList-from_slice a.form.now cc) (YieldsList-from_slice a.v.now cc))
    (λ x q k. search (rules, tests)) (λ x q k. search (rules, tests))))

pub returns-else-form-v : goal.returns-else-form-v
returns-else-form-v c = let a = c.args in
    rw (formed_pairs a.form.now a.v.now, ne_eqb _ _ c.if-form-v.false)
