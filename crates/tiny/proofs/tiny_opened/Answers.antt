-- `tiny::tiny_opened` meets its contract: each answer, by the tests that led there.
-- Assumes nothing.
use mathlib.Core.Bool.{and-eq-true_iff}
use native.Mathlib.Omega.{arith}
use borrow.Author.Tests.{leb-true}
use lib.ListN.{get_or}
use Rattle.layout.specs.Tiny.{tiny_opened}
use Rattle.parts.proofs.Tests.{tests}
use Rattle.tiny.proofs.tiny_opened.Goals as goal

pub returns-then-image-lt3 : goal.returns-then-image-lt3
unfolding tiny_opened
returns-then-image-lt3 c = search tests

pub returns-then-image-ne86 : goal.returns-then-image-ne86
unfolding tiny_opened
returns-then-image-ne86 c = search tests

pub returns-then-image-ne2 : goal.returns-then-image-ne2
unfolding tiny_opened
returns-then-image-ne2 c = search tests

pub overflow_cast-total : goal.overflow_cast-total
overflow_cast-total c = omega (arith, c.type_inv.image 2)

pub overflow_sub-result : goal.overflow_sub-result
overflow_sub-result c = let s = c.args.image.now in
    omega (arith, leb-true _ (get_or s 2 0) ((and-eq-true_iff _ _).0 c.if-total-image.true).0)

pub returns-then-total-image : goal.returns-then-total-image
unfolding tiny_opened
returns-then-total-image c = search (tests, c.if-total-image.true)

pub returns : goal.returns
unfolding tiny_opened
returns c = search (tests, c.if-total-image.false)
