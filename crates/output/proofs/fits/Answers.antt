-- `output::fits` meets its contract: the test of the cut-off length is the test of the length.
-- Assumes nothing.
use mathlib.Core.Path.{◌≡◌}
use native.Mathlib.Omega.{arith}
use borrow.Author.Tests.{le-leb, lt-leb}
use Rattle.layout.specs.Editions.{shape}
use Rattle.output.specs.Lengths.{sealed_length, fits_in}
use Rattle.output.proofs.Lengths.{capped-min}
use Rattle.output.proofs.fits.Goals as goal

pub returns-then-m-most : goal.returns-then-m-most
unfolding fits_in
returns-then-m-most c = let a = c.args in
    let x = sealed_length (shape a.format) a.n in
    let e : c.image_length-m.result ≡ x = omega (arith, capped-min x, c.image_length-m.ensures) in
    rw (e, le-leb x (shape a.format).most (omega arith))

pub returns-else-m-most : goal.returns-else-m-most
unfolding fits_in
returns-else-m-most c = let a = c.args in
    let x = sealed_length (shape a.format) a.n in
    rw (lt-leb x (shape a.format).most (omega (arith, capped-min x, c.image_length-m.ensures)), lt-leb _ _ c.if-m-most.false)
