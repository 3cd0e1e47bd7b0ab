-- How long a payload is that is made, and its values.
-- Assumes nothing.
use Prim.Native.Nat.{ℕ, ◌+◌, ◌*◌, ◌≤◌}
use mathlib.Core.Path.{◌≡◌, refl}
use mathlib.Core.List.{List, [], ◌∷◌}
use native.Mathlib.Omega.{arith}
use lib.ListN.{length, take, drop, length-append, length-drop}
use lib.Seq.{length-take-le}
use Rattle.crc.specs.Crc.{check32_of}
use Rattle.layout.specs.Onie.{four_bytes}
use Rattle.blocks.specs.declared.Offsets.{Offsets}
use Rattle.blocks.specs.Offset.{offset_bytes}
use Rattle.blocks.specs.Payload.{front, payload_of, cut_into, sum}

pub length_front : (serial : List ℕ) (o : Offsets) → length (front serial o) ≡ 12 + length serial
length_front serial o = omega (arith, length-append serial (0x00 ∷ 0x09 ∷ 0x00 ∷ offset_bytes o))

pub length-payload : (serial : List ℕ) (o : Offsets) → length (payload_of serial o) ≡ 16 + length serial
unfolding payload_of
length-payload serial o = omega (arith, length_front serial o, length-append (front serial o) (four_bytes (check32_of (front serial o))))

-- each piece has five bytes more, where there are bytes for all
pub length_cut : (xs s : List ℕ) → sum xs ≤ length s → length (cut_into xs s) ≡ 5 * length xs + sum xs
unfolding cut_into
length_cut [] s le = refl
length_cut (x ∷ xs) s le =
    let rest = length_cut xs (drop x s) (omega (arith, length-drop x s)) in
    omega (arith, rest, length-append (take x s) (cut_into xs (drop x s)), length-take-le x s (omega arith))

pub length-values : (serial : List ℕ) (o : Offsets) (pieces : List ℕ) → sum pieces ≡ 16 + length serial →
    length (cut_into pieces (payload_of serial o)) ≡ 5 * length pieces + (16 + length serial)
length-values serial o pieces whole = omega (arith, whole, length_cut pieces (payload_of serial o) (omega (arith, whole, length-payload serial o)))
