-- Bytes of offsets, eight of them.
-- Assumes nothing.
use Prim.Native.Nat.{ℕ}
use mathlib.Core.Path.{◌≡◌}
use mathlib.Core.List.{[], ◌∷◌}
use lib.IntN.{ℤ}
use Rattle.blocks.specs.declared.Offsets.{Offsets}
use Rattle.blocks.specs.Offset.{each_offset}

-- what is given for each offset, one by one, is what is given for all
pub eight-out : (k : ℤ → ℕ) (o : Offsets) {a b c d e f g h : ℕ} → a ≡ k o.c_west_in → b ≡ k o.c_west_out → c ≡ k o.c_east_in → d ≡ k o.c_east_out
    → e ≡ k o.l_west_in → f ≡ k o.l_west_out → g ≡ k o.l_east_in → h ≡ k o.l_east_out → a ∷ b ∷ c ∷ d ∷ e ∷ f ∷ g ∷ h ∷ [] ≡ each_offset k o
eight-out k o p0 p1 p2 p3 p4 p5 p6 p7 = rw (p0, p1, p2, p3, p4, p5, p6, p7)
