-- `accept::is_keyed` meets its contract: VPD alone has keys.
-- Assumes nothing.
use mathlib.Core.Path.{◌≡◌, refl}
use mathlib.Core.Bool.{false}
use Rattle.layout.specs.declared.Format.{Format}
use Rattle.layout.specs.declared.Format.TheVariants.{Fboss, Vpd, Tiny, Onie}
use Rattle.layout.specs.Fboss.{fboss}
use Rattle.layout.specs.Vpd.{vpd}
use Rattle.layout.specs.Tiny.{tiny}
use Rattle.layout.specs.Onie.{onie}
use Rattle.layout.specs.Editions.{shape}
use Rattle.accept.proofs.is_keyed.Goals as goal

keyless : (f : Format) → (f ≡ Vpd → ⊥) → false ≡ (shape f).keyed
unfolding fboss tiny onie
keyless Fboss n = refl
keyless Vpd n = absurd (n refl)
keyless Tiny n = refl
keyless Onie n = refl

pub returns-in-Vpd : goal.returns-in-Vpd
unfolding vpd
returns-in-Vpd c = rw c.in-Vpd.is

pub returns-in_default : goal.returns-in_default
returns-in_default c = keyless c.args.format c.in_default.not-Vpd
