-- An image that is put into the output: the test whether it fits, its length, and what `finished` makes of its entries. All hold of the cut-off length of the entries.
-- Assumes nothing.
use Prim.Native.Nat.{ℕ, ◌+◌, ◌≤◌}
use mathlib.Core.Path.{◌≡◌, refl, ap₂, sym, ◌∙◌}
use mathlib.Core.List.{List}
use mathlib.Core.Bool.{Bool, true, false, ◌&&◌}
use native.Mathlib.Omega.{arith}
use borrow.Author.Tests.{lt-leb, leb-false}
use lib.ListN.{length}
use lib.Dec.{leb}
use Rattle.std.specs.Prelude.{Ok}
use Rattle.layout.specs.declared.Format.{Format}
use Rattle.layout.specs.declared.Format.TheVariants.{Fboss, Vpd, Tiny, Onie}
use Rattle.layout.specs.Bytes.{part, refusal}
use Rattle.layout.specs.Fboss.{fboss}
use Rattle.layout.specs.Vpd.{vpd}
use Rattle.layout.specs.Tiny.{tiny}
use Rattle.layout.specs.Onie.{onie}
use Rattle.layout.specs.Editions.{shape}
use Rattle.layout.specs.Read.{limit}
use Rattle.layout.specs.Write.{refuse, image_of, padded, put}
use Rattle.output.specs.Lengths.{too_long, capped, sealed_length, fits_in}
use Rattle.output.specs.Placing.{finished}
use Rattle.output.proofs.Lengths.{capped-min, length-header, length-image, fits-known}
use Rattle.output.proofs.Sealing.{finished-is}

pub most-limit : (f : Format) → (shape f).most ≤ limit
unfolding fboss vpd tiny onie
most-limit Fboss = omega arith
most-limit Vpd = omega arith
most-limit Tiny = omega arith
most-limit Onie = omega arith

module _ (f : Format) (n room : ℕ) where
  -- Entries that fit are not cut off.
  pub fits_whole : fits_in (shape f) (capped n) room ≡ true → capped n ≡ n
  fits_whole e = omega (arith, capped-min n, most-limit f, (fits-known (shape f) (capped n) room e).0)

  -- They have room after the header.
  pub fits-room : fits_in (shape f) (capped n) room ≡ true → length ((shape f).header 0) + n ≤ room
  fits-room e = omega (arith, fits_whole e, length-header f (capped n), (fits-known (shape f) (capped n) room e).1)

  -- Whether they fit, by their length and by the cut-off one.
  pub fits-capped : fits_in (shape f) (capped n) room ≡ fits_in (shape f) n room
  unfolding fits_in
  fits-capped = go (leb n too_long) refl
    where
      long : (m : ℕ) → too_long ≤ m → leb (sealed_length (shape f) m) (shape f).most ≡ false
      long m le = lt-leb (sealed_length (shape f) m) (shape f).most (omega (arith, most-limit f))

      go : (t : Bool) → leb n too_long ≡ t → fits_in (shape f) (capped n) room ≡ fits_in (shape f) n room
      go true e = rw e
      go false e = rw (long (capped n) (omega (arith, capped-min n, leb-false n too_long e)), long n (omega (arith, leb-false n too_long e)))

module _ (f : Format) (es out : List ℕ) where
  pub put-not : fits_in (shape f) (capped (length es)) (length out) ≡ false → put (shape f) (image_of (shape f) es) out ≡ refuse (refusal 12 0) out
  unfolding put fits_in
  put-not e = rw (length-image f es, sym (fits-capped f (length es) (length out)) ∙ e)

  -- d is an output of the same length that has the entries where the header ends
  module _ (d : List ℕ) (l : length d ≡ length out) (stands : part (length ((shape f).header 0)) (length es) d ≡ es) where
    pub put_whole : fits_in (shape f) (length es) (length out) ≡ true →
        put (shape f) (image_of (shape f) es) out ≡ record { answer = Ok (sealed_length (shape f) (length es)); memory = finished (shape f) d (length es) }
    unfolding put fits_in
    put_whole e =
        let image : List ℕ = image_of (shape f) es in
        let test : (leb (length image) (shape f).most && leb (length image) (length out)) ≡ true = rw (length-image f es) e in
        let made : finished (shape f) d (length es) ≡ padded image (length out) =
        sym (finished-is (shape f) d (length es) (rw l e)) ∙ rw (length-header f (length es), stands, l) in
        rw test (ap₂ (λ (a : ℕ) (m : List ℕ). record { answer = Ok a; memory = m }) (length-image f es) (sym made))

    pub put-fits : fits_in (shape f) (capped (length es)) (length out) ≡ true →
        put (shape f) (image_of (shape f) es) out ≡ record { answer = Ok (capped (sealed_length (shape f) (capped (length es)))); memory = finished (shape f) d (capped (length es)) }
    put-fits e =
        let n : ℕ = length es in
        let whole : capped n ≡ n = fits_whole f n (length out) e in
        let known = fits-known (shape f) (capped n) (length out) e in
        let same : capped (sealed_length (shape f) (capped n)) ≡ sealed_length (shape f) (capped n) = omega (arith, capped-min (sealed_length (shape f) (capped n)), most-limit f) in
        put_whole (sym (fits-capped f n (length out)) ∙ e) ∙ rw (same, whole)
