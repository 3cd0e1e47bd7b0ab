-- `parts::coded_head` meets its contract: a test for each answer, in the order of `coded_head`.
-- Assumes nothing.
use Rattle.layout.specs.Shape.{coded_head}
use Rattle.parts.proofs.Tests.{tests}
use Rattle.parts.proofs.coded_head.Goals as goal

pub returns-then-s-le0 : goal.returns-then-s-le0
unfolding coded_head
returns-then-s-le0 c = search tests

pub returns-then-first-eq0 : goal.returns-then-first-eq0
unfolding coded_head
returns-then-first-eq0 c = search tests

pub returns-then-first : goal.returns-then-first
unfolding coded_head
returns-then-first c = search tests

pub returns-then-s-le1 : goal.returns-then-s-le1
unfolding coded_head
returns-then-s-le1 c = search tests

pub returns-then-s-size : goal.returns-then-s-size
unfolding coded_head
returns-then-s-size c = search tests

pub returns-then-s-n : goal.returns-then-s-n
unfolding coded_head
returns-then-s-n c = search (tests, ← c.from-n.ensures)

pub returns-then-first-end : goal.returns-then-first-end
unfolding coded_head
returns-then-first-end c = search (tests, ← c.from-n.ensures)

pub returns : goal.returns
unfolding coded_head
returns c = rw c.from.ensures (search tests)
