-- `boardid::boardid_vendor_write` meets its contract.
-- Assumes nothing.
use mathlib.Core.Path.{ap, ◌∙◌}
use Rattle.layout.specs.Answers.{Made}
use Rattle.layout.specs.Write.{Outcome, told_made}
use Rattle.blocks.specs.declared.Offsets.{Offsets}
use Rattle.blocks.specs.Vendor.{pieces_in, write_vendor}
use Rattle.records.specs.Packed.{packed}
use Rattle.boardid.proofs.boardid_vendor_write.Goals as goal

pub returns : goal.returns
returns c = let a = c.args in
    let write : Offsets → Outcome = λ o. write_vendor a.format a.edition a.serial.now o (pieces_in a.pieces.now) a.out.now in
    let same = ap write c.offsets_of-offsets.ensures in
    let e = c.write_vendor.ensures in
    (c.pack_answer.ensures.made ∙ ap (λ (m : Made). packed (told_made m)) (e.0 ∙ ap (λ (t : Outcome). t.answer) same), e.1 ∙ ap (λ (t : Outcome). t.memory) same)
