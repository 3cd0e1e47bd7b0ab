-- The bytes of entries that stay, cut from an image.
-- Assumes nothing.
use Prim.Native.Nat.{ℕ, ◌+◌, ◌-◌}
use mathlib.Core.Path.{◌≡◌, ap₂, sym, ◌∙◌}
use mathlib.Core.List.{List, ◌++◌, append_assoc}
use native.Mathlib.Omega.{arith}
use lib.ListN.{length, length-append}
use Rattle.layout.specs.Bytes.{part}
use Rattle.laws.proofs.Frames.{part-between}
use Rattle.editor.specs.Here.{spliced, spliced_at}

-- the entries stand after H: `front` stays, `gone` does not, `after` stays
module _ (H front gone after rest : List ℕ) {image : List ℕ} (is : image ≡ H ++ ((front ++ (gone ++ after)) ++ rest)) {start cut next over : ℕ} (starts : start ≡ length H)
    (cuts : cut ≡ start + length front) (goes : next ≡ cut + length gone) (ends : over ≡ next + length after) where
  front-part : part start (cut - start) image ≡ front
  front-part =
      let long : cut - start ≡ length front = omega arith in
      let split : image ≡ H ++ (front ++ ((gone ++ after) ++ rest)) = is ∙ simp append_assoc in
      rw (long, split) (part-between H front ((gone ++ after) ++ rest) start (sym starts))

  after-part : part next (over - next) image ≡ after
  after-part =
      let x : List ℕ = H ++ (front ++ gone) in
      let long : over - next ≡ length after = omega arith in
      let at : length x ≡ next = omega (arith, length-append H (front ++ gone), length-append front gone) in
      let split : image ≡ x ++ (after ++ rest) = is ∙ simp append_assoc in
      rw (long, split) (part-between x after rest next at)

  pub cut-spliced : (fresh : List ℕ) → spliced_at fresh image start cut next over ≡ spliced front fresh after
  cut-spliced fresh = ap₂ (λ (a b : List ℕ). spliced a fresh b) front-part after-part
