-- Lengths that are cut off, of openings, and of images.
-- Assumes nothing.
use Prim.Native.Nat.{ℕ, suc, ◌+◌, ◌≤◌, ◌<◌, min}
use mathlib.Core.Path.{◌≡◌, refl, ap}
use mathlib.Core.List.{List, [], ◌∷◌}
use mathlib.Core.Bool.{Bool, true, false}
use native.Mathlib.Omega.{arith}
use borrow.Author.Tests.{le-leb, lt-leb, leb-true, leb-false}
use lib.ListN.{length, length-append}
use lib.Dec.{leb}
use Rattle.layout.specs.declared.Format.{Format}
use Rattle.layout.specs.declared.Format.TheVariants.{Fboss, Vpd, Tiny, Onie}
use Rattle.layout.specs.Bytes.{if}
use Rattle.layout.specs.Shape.{Shape}
use Rattle.layout.specs.Fboss.{fboss}
use Rattle.layout.specs.Vpd.{vpd, shortest}
use Rattle.layout.specs.Tiny.{tiny}
use Rattle.layout.specs.Onie.{onie, onie_check}
use Rattle.layout.specs.Editions.{shape}
use Rattle.layout.specs.Read.{limit}
use Rattle.layout.specs.Write.{body, image_of}
use Rattle.layout.proofs.Choices.{both}
use Rattle.output.specs.Lengths.{too_long, capped, sealed_length, fits_in}

-- A length that is cut off, for `omega`.

pub capped-min : (n : ℕ) → capped n ≡ min n too_long
capped-min n = go (leb n too_long) refl
  where
    go : (t : Bool) → leb n too_long ≡ t → if t (λ _. n) (λ _. too_long) ≡ min n too_long
    go true e = let h : n ≤ too_long = leb-true n too_long e in omega arith
    go false e = let h : too_long < n = leb-false n too_long e in omega arith

-- No output has room for what is cut off: lengths that are the same but for the cut fit alike.
pub fits-alike : (m n room : ℕ) → room ≤ limit → min m too_long ≡ min n too_long → leb m room ≡ leb n room
fits-alike m n room le same = go (leb n room) refl
  where
    go : (t : Bool) → leb n room ≡ t → leb m room ≡ t
    go true e = le-leb m room (omega (arith, leb-true n room e))
    go false e = lt-leb m room (omega (arith, leb-false n room e))

-- What opens a VPD entry.
pub length-keyed : (c : ℕ) (key : List ℕ) → length (vpd.opening c key) ≡ suc (length (shortest (length key)) + length key)
unfolding vpd
length-keyed c key = ap suc (length-append (shortest (length key)) key)

-- What opens an entry of any other format.
pub not-keyed : (f : Format) (c : ℕ) (key : List ℕ) → (f ≡ Vpd → ⊥) → (shape f).opening c key ≡ c ∷ []
unfolding fboss tiny onie
not-keyed Fboss c key other = refl
not-keyed Vpd c key other = absurd (other refl)
not-keyed Tiny c key other = refl
not-keyed Onie c key other = refl

-- Headers have one length, whatever the entries, and so have checks.
pub length-header : (f : Format) (n : ℕ) → length ((shape f).header n) ≡ length ((shape f).header 0)
unfolding fboss vpd tiny onie
length-header Fboss n = refl
length-header Vpd n = refl
length-header Tiny n = refl
length-header Onie n = refl

pub length-check : (f : Format) (s : List ℕ) → length ((shape f).check s) ≡ length ((shape f).check [])
unfolding fboss vpd tiny onie onie_check
length-check Fboss s = refl
length-check Vpd s = refl
length-check Tiny s = refl
length-check Onie s = refl

pub length-image : (f : Format) (entries : List ℕ) → length (image_of (shape f) entries) ≡ sealed_length (shape f) (length entries)
unfolding image_of
length-image f entries = simp length-append (rw (length-check f (body (shape f) entries)))

-- An image that fits its format and the output.
pub fits-known : (S : Shape) (n room : ℕ) → fits_in S n room ≡ true → (sealed_length S n ≤ S.most) × (sealed_length S n ≤ room)
unfolding fits_in
fits-known S n room e =
    let t = both (leb (sealed_length S n) S.most) (leb (sealed_length S n) room) e in
    (leb-true (sealed_length S n) S.most t.0, leb-true (sealed_length S n) room t.1)
