-- A change of an accepted image, be it an edit, an addition or a removal: what it asks of the entries, and then whether the image fits.
-- Assumes nothing.
use Prim.Native.Nat.{ℕ, ◌≤◌}
use mathlib.Core.Path.{◌≡◌, refl, ap, sym, ◌∙◌}
use mathlib.Core.List.{List}
use mathlib.Core.Bool.{Bool, true, false, ◌&&◌}
use mathlib.Core.Logic.{◌⊎◌, inl, inr}
use lib.ListN.{length}
use lib.Dec.{leb}
use borrow.Author.Tests.{leb-true, le-leb}
use Rattle.std.specs.Prelude.{Ok}
use Rattle.layout.specs.declared.Format.{Format}
use Rattle.layout.specs.declared.Format.TheVariants.{Fboss, Vpd, Tiny, Onie}
use Rattle.layout.specs.Bytes.{if, refusal}
use Rattle.layout.specs.Editions.{shape}
use Rattle.layout.specs.Fboss.{fboss}
use Rattle.layout.specs.Vpd.{vpd}
use Rattle.layout.specs.Tiny.{tiny}
use Rattle.layout.specs.Onie.{onie}
use Rattle.layout.specs.Read.{limit, Read}
use Rattle.layout.specs.Write.{Outcome, padded, refuse, put, told_made}
use Rattle.layout.specs.Change.{Change, change_allowed, change_read, change_image}
use Rattle.layout.proofs.Choices.{both, false-true}
use Rattle.laws.proofs.Calls.{Found, change-read}
use Rattle.promises.specs.Words.{Counts, Refuses}
use Rattle.promises.specs.Written.{header_size, Fits}
use Rattle.promises.proofs.Written.{fits-allowed, allowed-fits}
use Rattle.promises.proofs.Output.{put-fitting}

-- what stands before the entries is as long in every image of a format
pub header-size : (g : Format) (n : ℕ) → length ((shape g).header n) ≡ header_size g
unfolding fboss vpd tiny onie
header-size Fboss n = refl
header-size Vpd n = refl
header-size Tiny n = refl
header-size Onie n = refl

-- the change, after the image is read
pub change-accepted : (x : Change) (f e : ℕ) (image : List ℕ) (n : ℕ) (y : Found f e image n) (out : List ℕ) → length out ≤ limit →
    let S = shape y.format in
    change_image x f e image out ≡ change_allowed (x.asks S e y.start y.raws) S (x.entries S y.raws) out
change-accepted x f e image n y out short = change-read x f e image out short ∙ ap (λ (r : Read). change_read r x e out) y.reading.read

-- an image that fits is put, and told with its length
pub put-tells : (g : Format) (image out : List ℕ) → length out ≤ limit → Fits g (length image) out → Counts (told_made (put (shape g) image out).answer) (length image)
put-tells g image out short fits = rw (put-fitting (shape g) image out (fits-allowed g (length image) out short fits) fits.room)

-- either it fits, or it is 12
pub put-either : (g : Format) (image out : List ℕ) → length out ≤ limit →
    Fits g (length image) out ⊎ ((Fits g (length image) out → ⊥) × Refuses (told_made (put (shape g) image out).answer) 12 0)
unfolding put
put-either g image out short = go (leb (length image) (shape g).most && leb (length image) (length out)) refl
  where
    go : (b : Bool) → leb (length image) (shape g).most && leb (length image) (length out) ≡ b →
        Fits g (length image) out
        ⊎ ((Fits g (length image) out → ⊥)
        × Refuses (told_made (if {A = Outcome} b (λ _. record { answer = Ok (length image); memory = padded image (length out) }) (λ _. refuse (refusal 12 0) out)).answer) 12 0)
    go true t =
        let b = both (leb (length image) (shape g).most) (leb (length image) (length out)) t in
        inl (allowed-fits g (length image) out (leb-true (length image) (shape g).most b.0) (leb-true (length image) (length out) b.1))
    go false t =
        inr
        ((λ fits. false-true (sym t ∙ rw (le-leb (length image) (shape g).most (fits-allowed g (length image) out short fits), le-leb (length image) (length out) fits.room))), refl)
