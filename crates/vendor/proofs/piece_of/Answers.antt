-- `vendor::piece_of` meets its contract.
-- Assumes nothing.
use Rattle.vendor.proofs.Matching.{other-code, stripped}
use Rattle.vendor.proofs.piece_of.Goals as goal

pub returns-then-code-ne253 : goal.returns-then-code-ne253
returns-then-code-ne253 c = λ key. other-code (record { code = c.args.code; key = key; value = c.args.value.now }) c.if-code-ne253.true

pub returns : goal.returns
returns c = λ key. rw c.if-code-ne253.false (stripped key c.args.value.now c.strip_prefix.result c.strip_prefix.ensures.cases)
