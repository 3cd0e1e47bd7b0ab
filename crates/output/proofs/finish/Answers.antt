-- `output::finish` meets its contract: the test whether the image fits, and each format.
-- Assumes nothing.
use mathlib.Core.Path.{sym, ◌∙◌}
use native.Mathlib.Omega.{arith}
use lib.ListN.{length}
use Rattle.layout.specs.Fboss.{fboss}
use Rattle.layout.specs.Vpd.{vpd}
use Rattle.layout.specs.Tiny.{tiny}
use Rattle.layout.specs.Onie.{onie, onie_check}
use Rattle.output.proofs.Lengths.{fits-known}
use Rattle.output.proofs.Sealing.{finished-is, finished-not}
use Rattle.output.proofs.finish.Goals as goal

pub finish_fboss-requires : goal.finish_fboss-requires
unfolding fboss
finish_fboss-requires c = let a = c.args in
    let known = fits-known fboss a.n (length a.out.now) (rw c.in-Fboss.is at (sym c.fits.ensures ∙ c.if-fits.true)) in
    omega arith

pub finish_vpd-requires : goal.finish_vpd-requires
unfolding vpd
finish_vpd-requires c = let a = c.args in
    let known = fits-known vpd a.n (length a.out.now) (rw c.in-Vpd.is at (sym c.fits.ensures ∙ c.if-fits.true)) in
    omega arith

pub finish_tiny-requires : goal.finish_tiny-requires
unfolding tiny
finish_tiny-requires c = let a = c.args in
    let known = fits-known tiny a.n (length a.out.now) (rw c.in-Tiny.is at (sym c.fits.ensures ∙ c.if-fits.true)) in
    omega arith

pub finish_onie-requires : goal.finish_onie-requires
unfolding onie onie_check
finish_onie-requires c = let a = c.args in
    let known = fits-known onie a.n (length a.out.now) (rw c.in-Onie.is at (sym c.fits.ensures ∙ c.if-fits.true)) in
    omega arith

pub returns-in-Fboss : goal.returns-in-Fboss
unfolding fboss
returns-in-Fboss c = let f = c.in-Fboss.is in
    rw f (c.finish_fboss.ensures ∙ finished-is fboss _ _ (rw f at (sym c.fits.ensures ∙ c.if-fits.true)))

pub returns-in-Vpd : goal.returns-in-Vpd
unfolding vpd
returns-in-Vpd c = let f = c.in-Vpd.is in
    rw f (c.finish_vpd.ensures ∙ finished-is vpd _ _ (rw f at (sym c.fits.ensures ∙ c.if-fits.true)))

pub returns-in-Tiny : goal.returns-in-Tiny
unfolding tiny
returns-in-Tiny c = let f = c.in-Tiny.is in
    rw f (c.finish_tiny.ensures ∙ finished-is tiny _ _ (rw f at (sym c.fits.ensures ∙ c.if-fits.true)))

pub returns-in-Onie : goal.returns-in-Onie
unfolding onie
returns-in-Onie c = let f = c.in-Onie.is in
    rw f (c.finish_onie.ensures ∙ finished-is onie _ _ (rw f at (sym c.fits.ensures ∙ c.if-fits.true)))

pub returns-else-fits : goal.returns-else-fits
returns-else-fits c = finished-not _ _ _ (sym c.fits.ensures ∙ c.if-fits.false)
