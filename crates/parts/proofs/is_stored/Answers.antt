-- `parts::is_stored` meets its contract: past the image no check is stored but one that has no bytes.
-- Assumes nothing.
use Prim.Native.Nat.{◌<◌}
use mathlib.Core.Path.{◌∙◌}
use native.Mathlib.Omega.{arith}
use lib.ListN.{length}
use Rattle.parts.proofs.Seal.{begins, none-stored}
use Rattle.parts.proofs.is_stored.Goals as goal

pub returns-in-Some : goal.returns-in-Some
returns-in-Some c = let a = c.args in
    c.starts_with.ensures.value ∙ rw c.in-Some.ensures.lookup.0.2 (begins a.image.now a.check.now a.at)

pub returns-in-None : goal.returns-in-None
returns-in-None c = let a = c.args in
    let past : length a.image.now < a.at = omega (arith, c.in-None.ensures.lookup.0) in
    c.is_empty.ensures ∙ none-stored a.image.now a.check.now a.at (omega arith)
