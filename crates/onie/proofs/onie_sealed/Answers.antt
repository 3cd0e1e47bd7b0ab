-- `onie::onie_sealed` meets its contract: it compares the stored check with that over the bytes before the end of the entries and FE 04.
-- Assumes nothing.
use native.Mathlib.Omega.{arith}
use Rattle.layout.specs.Onie.{onie, onie_check}
use Rattle.layout.specs.Read.{sealed}
use Rattle.parts.proofs.Seal.{unsealed}
use Rattle.onie.proofs.onie_sealed.Goals as goal

pub returns-then-image-p : goal.returns-then-image-p
unfolding onie onie_check
returns-then-image-p c = unsealed onie _ _ (omega arith) (omega arith)

pub returns : goal.returns
unfolding sealed onie onie_check
returns c = rw (c.is_stored.ensures, c.four_bytes-check.ensures, c.check32_closed.ensures)
