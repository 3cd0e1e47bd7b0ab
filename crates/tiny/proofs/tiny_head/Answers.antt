-- `tiny::tiny_head` meets its contract: each answer, by the tests that led there.
-- Assumes nothing.
use native.Mathlib.Omega.{arith}
use Rattle.layout.specs.Tiny.{tiny_head}
use Rattle.parts.proofs.Tests.{tests}
use Rattle.tiny.proofs.tiny_head.Goals as goal

pub returns-then-s-le0 : goal.returns-then-s-le0
unfolding tiny_head
returns-then-s-le0 c = search tests

pub returns-then-shut : goal.returns-then-shut
unfolding tiny_head
returns-then-shut c = search (tests, c.if-shut.true)

pub overflow_cast-code : goal.overflow_cast-code
overflow_cast-code c = omega (arith, c.type_inv.s 0)

pub returns-then-code-eq0 : goal.returns-then-code-eq0
unfolding tiny_head
returns-then-code-eq0 c = search (tests, c.if-shut.false)

pub returns : goal.returns
unfolding tiny_head
returns c = search (tests, c.if-shut.false)
