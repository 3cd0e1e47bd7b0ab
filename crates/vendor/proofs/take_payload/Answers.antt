-- `vendor::take_payload` meets its contract: 18 to 20, then 12, and then the payload in front of what the buffer had.
-- Assumes nothing.
use mathlib.Core.Path.{refl, ap, sym, ◌∙◌}
use borrow.Author.Tests.{lt-leb, le-leb}
use Rattle.std.specs.Prelude.{Err}
use Rattle.layout.proofs.Passed.{passed}
use Rattle.vendor.proofs.take_payload.Goals as goal

pub returns-in_err-block : goal.returns-in_err-block
returns-in_err-block c = rw (sym c.payload_says.ensures ∙ c.in_err-block.was) (record { value = passed c.from_residual.result c.from_residual.ensures.1; buffer_after = refl })

pub returns-then-buffer-n : goal.returns-then-buffer-n
returns-then-buffer-n c = rw (sym c.payload_says.ensures ∙ c.in_ok-block.was, lt-leb _ _ c.if-buffer-n.true) (record { value = ap Err c.from.ensures; buffer_after = refl })

pub returns : goal.returns
returns c = let a = c.args in
    rw (sym c.payload_says.ensures ∙ c.in_ok-block.was, le-leb _ _ c.if-buffer-n.false)
    (record { value = refl; buffer_after = rw c.copy_from_slice.ensures.after })
