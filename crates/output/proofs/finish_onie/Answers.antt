-- `output::finish_onie` meets its contract: header, check and end make the image.
-- Assumes nothing.
use Prim.Native.Nat.{ℕ, ◌+◌, ◌/◌, ◌%◌}
use mathlib.Core.Path.{refl, ◌∙◌}
use mathlib.Core.List.{List, [], ◌∷◌, ◌++◌}
use native.Mathlib.Omega.{arith}
use Rattle.layout.specs.Onie.{onie, tlv_info, onie_check}
use Rattle.output.proofs.Overlay.{copied-then}
use Rattle.output.proofs.Sealing.{two-high, sealed}
use Rattle.output.proofs.finish_onie.Goals as goal

pub returns : goal.returns
unfolding onie onie_check
returns c = let a = c.args in
    let version : List ℕ = 0x01 ∷ ((a.n + 6) / 256) ∷ ((a.n + 6) % 256) ∷ [] in
    let header = copied-then a.out.now 0 tlv_info version c.copy_at.ensures (rw (c.to_be_bytes.ensures ∙ two-high (omega (arith, c.requires.1))) at c.copy_at-2.ensures) (omega (arith, c.requires.0)) refl in
    sealed onie a.out.now (tlv_info ++ version) a.n header c.put_end.ensures refl (rw (c.four_bytes.ensures, c.check32_closed.ensures)) (omega (arith, c.requires.0))
