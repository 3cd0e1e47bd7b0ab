-- `boardid::give_payload` meets its contract.
-- Assumes nothing.
use mathlib.Core.Path.{refl, ap, sym, ◌∙◌}
use Rattle.blocks.specs.Answers.{Vended}
use Rattle.blocks.specs.Vendor.{read_vendor}
use Rattle.records.specs.Exports.{vendor_given}
use Rattle.boardid.proofs.Giving.{refused-as, handed-as}
use Rattle.boardid.proofs.Vendor.{call-short, call_long, block-front, gives}
use Rattle.boardid.proofs.give_payload.Goals as goal

pub returns-then-block-lt48 : goal.returns-then-block-lt48
returns-then-block-lt48 c = let a = c.args in
    let g = call-short a.format a.edition a.image.now a.payload.now a.block.now c.if-block-lt48.true in
    let z = gives g in
    (refused-as (c.read_unlent.ensures a.payload.now refl) ∙ z.0, z.1, z.2)

pub returns-in_err-n : goal.returns-in_err-n
returns-in_err-n c = let a = c.args in
    let g = call_long a.format a.edition a.image.now a.payload.now a.block.now c.if-block-lt48.false in
    let e = c.read_vendor.ensures in
    let is = g ∙ ap (λ (v : Vended). vendor_given v (read_vendor a.format a.edition a.image.now a.payload.now).memory a.block.now) (sym e.0 ∙ c.in_err-n.was) in
    let z = gives is in
    (handed-as c.from_residual.result _ c.from_residual.ensures.1 ∙ z.0, e.1 ∙ z.1, z.2)

pub returns : goal.returns
returns c = let a = c.args in
    let g = call_long a.format a.edition a.image.now a.payload.now a.block.now c.if-block-lt48.false in
    let e = c.read_vendor.ensures in
    let is = g ∙ ap (λ (v : Vended). vendor_given v (read_vendor a.format a.edition a.image.now a.payload.now).memory a.block.now) (sym e.0 ∙ c.in_ok-n.was) in
    let z = gives is in
    (z.0, e.1 ∙ z.1, c.put_block.ensures ∙ block-front _ a.block.now c.if-block-lt48.false ∙ z.2)
