-- The image that is put into the output, by the length of its entries, cut off.
-- Assumes nothing.
use Prim.Native.Nat.{ℕ, ◌+◌, ◌≤◌}
use mathlib.Core.Path.{◌≡◌, refl, ap, ◌∙◌}
use mathlib.Core.List.{List}
use mathlib.Core.Bool.{true, false}
use native.Mathlib.Omega.{arith}
use lib.ListN.{length}
use Rattle.std.specs.Prelude.{Ok, Err}
use Rattle.layout.specs.declared.Format.{Format}
use Rattle.layout.specs.Answers.{Made}
use Rattle.layout.specs.Bytes.{part, refusal}
use Rattle.layout.specs.Editions.{shape}
use Rattle.layout.specs.Write.{image_of, put}
use Rattle.output.specs.Lengths.{capped, sealed_length, fits_in}
use Rattle.output.specs.Placing.{over, finished}
use Rattle.output.proofs.Overlay.{length_over, part-over}
use Rattle.output.proofs.Putting.{fits-room, put-not, put-fits}
use Rattle.writer.specs.Gives.{Gives}

module _ (f : Format) (es out : List ℕ) {n : ℕ} (cut : n ≡ capped (length es)) where
  -- The entries have room.
  pub image-room : fits_in (shape f) n (length out) ≡ true → length ((shape f).header 0) + length es ≤ length out
  image-room e = fits-room f (length es) (length out) (rw cut at e)

  pub image-put : fits_in (shape f) n (length out) ≡ true → {start m : ℕ} {d d' : List ℕ} → start ≡ length ((shape f).header 0) → d ≡ over out start es →
      d' ≡ finished (shape f) d n → m ≡ capped (sealed_length (shape f) n) → Gives (Ok m) d' (put (shape f) (image_of (shape f) es) out)
  image-put e {d = d} e₁ e₂ e₃ e₄ =
      let a : ℕ = length ((shape f).header 0) in
      let placed : d ≡ over out a es = rw e₁ at e₂ in
      let room : a + length es ≤ length out = image-room e in
      let long : length d ≡ length out = ap length placed ∙ length_over out a es room in
      let stands : part a (length es) d ≡ es = rw placed (part-over out a es (omega arith)) in
      rw (put-fits f es out d long stands (rw cut at e)) (ap Ok (rw cut at e₄), rw cut at e₃)

  pub image-not : fits_in (shape f) n (length out) ≡ false → {r : Made} → r ≡ Err (refusal 12 0) → Gives r out (put (shape f) (image_of (shape f) es) out)
  image-not e is = rw (put-not f es out (rw cut at e)) (is, refl)
