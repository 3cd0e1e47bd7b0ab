-- `fboss::fboss_opened` meets its contract: a test for each byte of the header, in the order of `fboss_opened`.
-- Assumes nothing.
use Rattle.layout.specs.Fboss.{fboss_opened}
use Rattle.parts.proofs.Tests.{tests}
use Rattle.fboss.proofs.fboss_opened.Goals as goal

pub returns-then-image-lt4 : goal.returns-then-image-lt4
unfolding fboss_opened
returns-then-image-lt4 c = search tests

pub returns-then-image : goal.returns-then-image
unfolding fboss_opened
returns-then-image c = search tests

pub returns-then-image-2 : goal.returns-then-image-2
unfolding fboss_opened
returns-then-image-2 c = search tests

pub returns-then-image-ne5 : goal.returns-then-image-ne5
unfolding fboss_opened
returns-then-image-ne5 c = search tests

pub returns-then-image-3 : goal.returns-then-image-3
unfolding fboss_opened
returns-then-image-3 c = search tests

pub returns : goal.returns
unfolding fboss_opened
returns c = search tests
