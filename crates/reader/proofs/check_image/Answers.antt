-- `reader::check_image` meets its contract: an image that is taken is accepted, with as many entries.
-- Assumes nothing.
use Prim.Native.Nat.{ℕ}
use mathlib.Core.Path.{ap, sym, ◌∙◌}
use Rattle.std.specs.Prelude.{Ok}
use Rattle.layout.specs.Calls.{check_image}
use Rattle.layout.proofs.Passed.{passed}
use Rattle.accept.proofs.Rooms.{took, not-took}
use Rattle.reader.proofs.check_image.Goals as goal

pub returns : goal.returns
unfolding check_image
returns c = let a = c.args in
    let i = a.image.now in
    let room = c.in_ok-take_image.field-0 in
    let w = took a.format a.edition i room (sym c.take_image.ensures ∙ c.in_ok-take_image.was) in
    rw w.read (ap (λ (n : ℕ). Ok n) w.counts)

pub returns-in_err-take_image : goal.returns-in_err-take_image
unfolding check_image
returns-in_err-take_image c = let a = c.args in
    let r = c.in_err-take_image.field-0.0 in
    let q = not-took a.format a.edition a.image.now r (sym c.take_image.ensures ∙ c.in_err-take_image.was) in
    rw q (passed c.from_residual.result c.from_residual.ensures.1)
