-- `accept::closing_length` meets its contract: the closing of each format.
-- Assumes nothing.
use mathlib.Core.Path.{◌≡◌}
use mathlib.Core.Logic.{◌⊎◌, inl, inr}
use lib.ListN.{length}
use Rattle.layout.specs.declared.Format.{Format}
use Rattle.layout.specs.declared.Format.TheVariants.{Fboss, Onie}
use Rattle.layout.specs.Fboss.{fboss}
use Rattle.layout.specs.Vpd.{vpd}
use Rattle.layout.specs.Tiny.{tiny}
use Rattle.layout.specs.Onie.{onie}
use Rattle.layout.specs.Editions.{shape}
use Rattle.accept.proofs.closing_length.Goals as goal

two : (f : Format) → (f ≡ Fboss) ⊎ (f ≡ Onie) → 2 ≡ length (shape f).closing
unfolding fboss onie
two f (inl e) = rw e
two f (inr e) = rw e

pub returns-in-Fboss : goal.returns-in-Fboss
returns-in-Fboss c = two c.args.format c.in-Fboss.is

pub returns-in-Vpd : goal.returns-in-Vpd
unfolding vpd
returns-in-Vpd c = rw c.in-Vpd.is

pub returns-in-Tiny : goal.returns-in-Tiny
unfolding tiny
returns-in-Tiny c = rw c.in-Tiny.is
