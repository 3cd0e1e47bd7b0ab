-- Bytes of entries laid into an output from where the header ends, their length, and their image.
-- Assumes nothing.
use Prim.Native.Nat.{ℕ, ◌+◌, ◌≤◌}
use mathlib.Core.Path.{◌≡◌, ap, ap₂, sym, ◌∙◌}
use mathlib.Core.List.{List, ◌++◌}
use mathlib.Core.Bool.{Bool, true, false}
use native.Mathlib.Omega.{arith}
use lib.ListN.{length, length-append}
use Rattle.std.specs.Prelude.{Ok}
use Rattle.layout.specs.declared.Format.{Format}
use Rattle.layout.specs.Bytes.{part, refusal}
use Rattle.layout.specs.Editions.{shape}
use Rattle.layout.specs.Write.{refuse, put, image_of}
use Rattle.output.specs.Lengths.{capped, sealed_length, fits_in}
use Rattle.output.specs.Placing.{copied, finished}
use Rattle.output.proofs.Lengths.{capped-min}
use Rattle.output.proofs.Overlay.{part-over, copied-over, length-copied, copied-then}
use Rattle.output.proofs.Putting.{fits-room, put-not, put-fits}
use Rattle.editor.specs.Here.{spliced}

-- What was copied is read there.
copied-stands : (d : List ℕ) (a : ℕ) (s : List ℕ) → a + length s ≤ length d → part a (length s) (copied d a s) ≡ s
copied-stands d a s le = rw (copied-over d a s le) (part-over d a s (omega arith))

module _ (front fresh after : List ℕ) where
  pub length-spliced : length (spliced front fresh after) ≡ length front + length fresh + length after
  unfolding spliced
  length-spliced = length-append (front ++ fresh) after ∙ ap (λ (n : ℕ). n + length after) (length-append front fresh)

  -- Their length by sums that are cut off.
  pub capped-spliced : {k m n : ℕ} → k ≡ capped (length fresh) → m ≡ capped (length front + k) → n ≡ capped (m + length after) → n ≡ capped (length (spliced front fresh after))
  capped-spliced {k} {m} {n} p q r =
      omega (arith, length-spliced, capped-min (length fresh), capped-min (length front + k), capped-min (m + length after), capped-min (length (spliced front fresh after)))

  -- Three writes, each where the one before ends.
  pub three-laid : (d : List ℕ) (a : ℕ) {d₁ d₂ d₃ : List ℕ} {at next : ℕ} → d₁ ≡ copied d a front → d₂ ≡ copied d₁ at fresh → d₃ ≡ copied d₂ next after →
      at ≡ a + length front → next ≡ at + length fresh → a + length (spliced front fresh after) ≤ length d → d₃ ≡ copied d a (spliced front fresh after)
  unfolding spliced
  three-laid d a p q r ea en fits =
      let l₁ = length-append front fresh in
      let l₂ = length-append (front ++ fresh) after in
      copied-then d a (front ++ fresh) after (copied-then d a front fresh p q (omega arith) ea) r fits (omega arith)

-- The image of entries, by the tests and writes that put it into the output.
module _ (f : Format) (entries out : List ℕ) {n : ℕ} {t : Bool} (cut : n ≡ capped (length entries)) (test : t ≡ fits_in (shape f) n (length out)) where
  tested : fits_in (shape f) (capped (length entries)) (length out) ≡ t
  tested = ap (λ (x : ℕ). fits_in (shape f) x (length out)) (sym cut) ∙ sym test

  pub entries-not : t ≡ false → put (shape f) (image_of (shape f) entries) out ≡ refuse (refusal 12 0) out
  entries-not no_room = put-not f entries out (tested ∙ no_room)

  pub entries-room : t ≡ true → length ((shape f).header 0) + length entries ≤ length out
  entries-room fits = fits-room f (length entries) (length out) (tested ∙ fits)

  pub entries-put : t ≡ true → {d₁ d₂ : List ℕ} {l : ℕ} → d₁ ≡ copied out (length ((shape f).header 0)) entries → d₂ ≡ finished (shape f) d₁ n → l ≡ capped (sealed_length (shape f) n) →
      put (shape f) (image_of (shape f) entries) out ≡ record { answer = Ok l; memory = d₂ }
  entries-put fits {d₁ = d₁} laid seals long =
      let h = length ((shape f).header 0) in
      let same : length d₁ ≡ length out = ap length laid ∙ length-copied out h entries in
      let stands : part h (length entries) d₁ ≡ entries = ap (part h (length entries)) laid ∙ copied-stands out h entries (entries-room fits) in
      put-fits f entries out d₁ same stands (tested ∙ fits)
      ∙ ap₂ (λ (x : ℕ) (y : List ℕ). record { answer = Ok x; memory = y })
      (sym (long ∙ ap (λ (x : ℕ). capped (sealed_length (shape f) x)) cut)) (sym (seals ∙ ap (finished (shape f) d₁) cut))
