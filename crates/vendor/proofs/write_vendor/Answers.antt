-- `vendor::write_vendor` meets its contract: what is asked first, 18, and the values.
-- Assumes nothing.
use mathlib.Core.Path.{ap, sym, ◌∙◌}
use Rattle.layout.proofs.Passed.{passed}
use Rattle.layout.specs.Write.{Outcome}
use Rattle.blocks.specs.Vendor.{pieces_in}
use Rattle.blocks.proofs.Asking.{write-unasked}
use Rattle.layout.proofs.Outcomes.{outcome}
use Rattle.vendor.proofs.Making.{write-short, write-serial, write-wrong, write-right}
use Rattle.vendor.proofs.write_vendor.Goals as goal

pub returns-then-serial-gt255 : goal.returns-then-serial-gt255
returns-then-serial-gt255 c = let a = c.args in
    let s = a.serial.now in
    let ps = pieces_in a.pieces.now in
    let asks = sym c.ask.ensures ∙ c.in_ok-ask.was in
    rw c.from.ensures (outcome (write-serial a.format a.edition s a.offsets ps a.out.now _ asks c.if-serial-gt255.true))

pub put_values-requires : goal.put_values-requires
put_values-requires c = let a = c.args in
    let s = a.serial.now in
    let ps = pieces_in a.pieces.now in
    let asks = sym c.ask.ensures ∙ c.in_ok-ask.was in
    let le = c.if-serial-gt255.false in
    let w = write-right a.format a.edition s a.offsets ps a.out.now _ asks le _ (sym c.count_pieces.ensures ∙ c.in-Some.is) in
    (write-short a.format a.edition s a.offsets ps a.out.now _ asks, le, w.count, w.total)

pub returns-in_err-ask : goal.returns-in_err-ask
returns-in_err-ask c = let a = c.args in
    let s = a.serial.now in
    let ps = pieces_in a.pieces.now in
    rw (passed c.from_residual.result c.from_residual.ensures.1) (outcome (write-unasked a.format a.edition s a.offsets ps a.out.now _ (sym c.ask.ensures ∙ c.in_err-ask.was)))

pub returns-in_default : goal.returns-in_default
returns-in_default c = let a = c.args in
    let s = a.serial.now in
    let ps = pieces_in a.pieces.now in
    let asks = sym c.ask.ensures ∙ c.in_ok-ask.was in
    rw c.from-in_default.ensures (outcome (write-wrong a.format a.edition s a.offsets ps a.out.now _ asks c.if-serial-gt255.false (sym c.count_pieces.ensures ∙ c.in_default.is)))

pub returns : goal.returns
returns c = let a = c.args in
    let s = a.serial.now in
    let ps = pieces_in a.pieces.now in
    let asks = sym c.ask.ensures ∙ c.in_ok-ask.was in
    let w = write-right a.format a.edition s a.offsets ps a.out.now _ asks c.if-serial-gt255.false _ (sym c.count_pieces.ensures ∙ c.in-Some.is) in
    (c.put_values.ensures.value ∙ ap (λ (t : Outcome). t.answer) (sym w.is), c.put_values.ensures.out_after ∙ ap (λ (t : Outcome). t.memory) (sym w.is))
