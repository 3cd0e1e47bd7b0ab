-- The stored check of an image.
-- Assumes nothing.
use Prim.Native.Nat.{ℕ, suc, ◌+◌, ◌-◌, ◌≤◌, ◌<◌}
use mathlib.Core.Path.{◌≡◌, refl, sym, ap₂, ◌∙◌}
use mathlib.Core.List.{List, [], ◌∷◌}
use mathlib.Core.Bool.{Bool, true, false, ◌&&◌}
use native.Mathlib.Omega.{arith}
use lib.ListN.{length, take, drop, length-take, length-drop, drop_of_length-le}
use lib.Seq.{take-nil}
use lib.Dec.{eqb}
use lib.Pointwise.{pointwise}
use borrow.Author.Tests.{eqb-true, eqb-false, eq-eqb, ne_eqb}
use Rattle.std.specs.List.{slice_range, starts_with}
use Rattle.std.proofs.lemmas.List.{take_all}
use Rattle.layout.specs.Bytes.{same_bytes, part}
use Rattle.layout.specs.Shape.{Shape}
use Rattle.layout.specs.Read.{check_place, sealed}
use Rattle.parts.proofs.Loops.{same-pairs, same_listed, unlike}

-- A comparison of slices, in the other order.
other_order : (x y : List ℕ) → pointwise eqb y x ≡ pointwise eqb x y
other_order [] [] = refl
other_order [] (b ∷ y) = refl
other_order (a ∷ x) [] = refl
other_order (a ∷ x) (b ∷ y) = ap₂ (λ (s t : Bool). s && t) (go (eqb a b) refl) (other_order x y)
  where
    go : (t : Bool) → eqb a b ≡ t → eqb b a ≡ eqb a b
    go true e = eq-eqb b a (sym (eqb-true a b e)) ∙ sym e
    go false e = ne_eqb b a (λ q. eqb-false a b e (sym q)) ∙ sym e

-- A check is stored at a place where the bytes from there on begin with it.
pub begins : (image check : List ℕ) (at : ℕ) → starts_with eqb (slice_range image at (length image)) check ≡ same_bytes (part at (length check) image) check
unfolding part
begins image check at =
    let rest : take (length image - at) (drop at image) ≡ drop at image = take_all _ _ (omega (arith, length-drop at image)) in
    rw rest (other_order _ check ∙ same_listed _ check)

same_none : (check : List ℕ) → eqb (length check) 0 ≡ same_bytes [] check
same_none [] = same-pairs.none
same_none (b ∷ check) = ne_eqb (suc (length check)) 0 (λ e. omega arith) ∙ same-pairs.fewer b check

-- Past the image no check is stored but one that has no bytes.
pub none-stored : (image check : List ℕ) (at : ℕ) → length image ≤ at → eqb (length check) 0 ≡ same_bytes (part at (length check) image) check
unfolding part
none-stored image check at le = rw (drop_of_length-le image le, take-nil) (same_none check)

-- A part that the image cuts short is not the check.
pub cut_short : (image check : List ℕ) (at : ℕ) → 0 < length check → length image < at + length check → false ≡ same_bytes (part at (length check) image) check
unfolding part
cut_short image check at some short = unlike same-pairs _ _ (λ e. omega (arith, simp (length-take, length-drop) at e))

-- No check is stored where too few bytes follow the entries.
pub unsealed : (S : Shape) (image : List ℕ) (p : ℕ) → 0 < length (S.check (take p image)) →
    length image < check_place S p + length (S.check (take p image)) → false ≡ sealed S image p
unfolding sealed
unsealed S image p some short = cut_short image (S.check (take p image)) (check_place S p) some short
