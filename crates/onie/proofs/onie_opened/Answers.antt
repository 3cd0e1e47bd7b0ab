-- `onie::onie_opened` meets its contract: a test for each part of the header, in the order of `onie_opened`.
-- Assumes nothing.
use mathlib.Core.Path.{ap, sym, ◌∙◌}
use native.Mathlib.Omega.{arith}
use Rattle.std.specs.Prelude.{Err}
use Rattle.layout.specs.Onie.{onie_opened}
use Rattle.parts.proofs.Tests.{tests}
use Rattle.onie.proofs.Opening.{another, later, above, past, room}
use Rattle.onie.proofs.onie_opened.Goals as goal

pub returns-then-image-lt11 : goal.returns-then-image-lt11
unfolding onie_opened
returns-then-image-lt11 c = search tests

pub returns-then-not-is_onie : goal.returns-then-not-is_onie
returns-then-not-is_onie c = ap Err c.at-then-not-is_onie.ensures ∙ sym (another _ c.if-image-lt11.false (sym c.is_onie.ensures ∙ c.if-not-is_onie.true))

pub returns-then-image-ne1 : goal.returns-then-image-ne1
returns-then-image-ne1 c = ap Err c.at-then-image-ne1.ensures ∙ sym (later _ c.if-image-lt11.false (sym c.is_onie.ensures ∙ c.if-not-is_onie.false) c.if-image-ne1.true)

pub returns-then-n-gt2048 : goal.returns-then-n-gt2048
returns-then-n-gt2048 c = let n = c.declared_length-n.ensures in
    ap Err c.at-then-n-gt2048.ensures ∙ sym (above _ c.if-image-lt11.false (sym c.is_onie.ensures ∙ c.if-not-is_onie.false) c.if-image-ne1.false (omega (arith, n.0, c.if-n-gt2048.true)))

pub returns-then-image-n : goal.returns-then-image-n
returns-then-image-n c = let n = c.declared_length-n.ensures in
    ap Err c.at-then-image-n.ensures ∙ sym (past _ c.if-image-lt11.false (sym c.is_onie.ensures ∙ c.if-not-is_onie.false) c.if-image-ne1.false (omega (arith, n.0, c.if-n-gt2048.false)) (omega (arith, n.0, c.if-image-n.true)))

pub returns : goal.returns
returns c = let n = c.declared_length-n.ensures in
    rw n.0 (sym (room _ c.if-image-lt11.false (sym c.is_onie.ensures ∙ c.if-not-is_onie.false) c.if-image-ne1.false (omega (arith, n.0, c.if-n-gt2048.false)) (omega (arith, n.0, c.if-image-n.false)) n.2))
