-- `vendor::block_of` meets its contract.
-- Assumes nothing.
use Prim.Native.Nat.{◌+◌}
use mathlib.Core.Path.{◌≡◌, refl, ap, ◌∙◌}
use lib.ListN.{drop}
use Rattle.vendor.proofs.Matching.{got-from}
use Rattle.vendor.proofs.block_of.Goals as goal

pub returns : goal.returns
returns c = let s = c.args.payload.now in
    let at = 1 + c.serial_length-s.result + 2 + 1 in
    let rest : c.unwrap_or.result.now ≡ drop at s = ap (λ x. x.now) c.unwrap_or.ensures ∙ got-from s at c.get.result _ c.get.ensures.lookup refl in
    rw (c.offsets_in.ensures, rest, c.at.ensures, c.at-2.ensures, c.serial_length-s.ensures.0, c.block_length-b.ensures.0)
