-- `fboss::fboss_sealed` meets its contract: it compares the stored check with that over the bytes before the end of the entries.
-- Assumes nothing.
use Prim.Native.Nat.{◌/◌, ◌%◌}
use mathlib.Core.Path.{◌≡◌}
use native.Mathlib.Omega.{arith}
use Rattle.layout.specs.Fboss.{fboss}
use Rattle.layout.specs.Read.{sealed}
use Rattle.parts.proofs.Seal.{unsealed}
use Rattle.fboss.proofs.fboss_sealed.Goals as goal

pub returns-then-image-p : goal.returns-then-image-p
unfolding fboss
returns-then-image-p c = unsealed fboss _ _ (omega arith) (omega arith)

pub returns : goal.returns
unfolding sealed fboss
returns c =
    let n = c.check16.result in
    let high : n / 256 % 256 ≡ n / 256 = omega arith in
    rw (c.is_stored.ensures, c.to_be_bytes-check.ensures, high, c.check16.ensures)
