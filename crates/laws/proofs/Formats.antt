-- Every format meets the laws.
-- Assumes nothing.
use Rattle.layout.specs.declared.Format.{Format}
use Rattle.layout.specs.declared.Format.TheVariants.{Fboss, Vpd, Tiny, Onie}
use Rattle.layout.specs.Editions.{shape}
use Rattle.laws.specs.Grammar.{grammar}
use Rattle.laws.proofs.Format.{Laws}
use Rattle.laws.proofs.Fboss.{fboss-laws}
use Rattle.laws.proofs.Vpd.{vpd-laws}
use Rattle.laws.proofs.Tiny.{tiny-laws}
use Rattle.laws.proofs.Onie.{onie-laws}

pub laws : (f : Format) → Laws (shape f) (grammar f)
laws Fboss = fboss-laws
laws Vpd = vpd-laws
laws Tiny = tiny-laws
laws Onie = onie-laws
