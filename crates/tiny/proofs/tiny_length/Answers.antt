-- `tiny::tiny_length` meets its contract: each answer, by the test that led there.
-- Assumes nothing.
use Rattle.layout.specs.Tiny.{tiny_length}
use Rattle.parts.proofs.Tests.{tests}
use Rattle.tiny.proofs.tiny_length.Goals as goal

pub returns-then-code-lt16 : goal.returns-then-code-lt16
unfolding tiny_length
returns-then-code-lt16 c = search tests

pub returns : goal.returns
unfolding tiny_length
returns c = search tests
