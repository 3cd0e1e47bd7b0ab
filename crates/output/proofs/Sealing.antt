-- The header, the end and the check of an image that is written.
-- Assumes nothing.
use Prim.Native.Nat.{ℕ, ◌+◌, ◌/◌, ◌%◌, ◌≤◌, ◌<◌}
use mathlib.Core.Path.{◌≡◌, ap, ◌∙◌}
use mathlib.Core.List.{List, [], ◌∷◌, ◌++◌}
use mathlib.Core.Bool.{true, false}
use native.Mathlib.Nat.{zero-add, add_comm}
use native.Mathlib.Omega.{arith}
use lib.ListN.{length, take, drop, length-drop}
use lib.Seq.{take-append-add, length-take-le}
use Rattle.std.specs.Int.{w16, to_be_bytes}
use Rattle.layout.specs.Bytes.{part}
use Rattle.layout.specs.Shape.{Shape}
use Rattle.layout.specs.Write.{image_of, padded}
use Rattle.output.specs.Lengths.{fits_in}
use Rattle.output.specs.Placing.{over, copied, finished}
use Rattle.output.proofs.Overlay.{copied-over, length-copied}

pub length_part : (a n : ℕ) (d : List ℕ) → n + a ≤ length d → length (part a n d) ≡ n
unfolding part
length_part a n d le = length-take-le n (drop a d) (omega (arith, length-drop a d))

-- The bytes of a number of 16 bits, high byte first.
pub two-high : {n : ℕ} → n < 65536 → to_be_bytes w16 n ≡ n / 256 ∷ (n % 256) ∷ []
two-high {n} lt = ap (λ (x : ℕ). x ∷ (n % 256) ∷ []) (omega arith)

-- After the header was written, it stands before the entries.
body-stands : (d h : List ℕ) (n : ℕ) → n + length h ≤ length d → take (n + length h) (copied d 0 h) ≡ h ++ part (length h) n d
unfolding part over
body-stands d h n le =
    rw (copied-over d 0 h (omega arith), zero-add, add_comm n (length h)) (take-append-add h (drop (length h) d) n)

-- Header, entries, and an end that is the closing and the check over what stands before it, make the image.
pub sealed : (S : Shape) (d h : List ℕ) (n : ℕ) {d₁ d₂ e : List ℕ} → d₁ ≡ copied d 0 h → d₂ ≡ padded (take (n + length h) d₁ ++ e) (length d₁) →
    h ≡ S.header n → e ≡ S.closing ++ S.check (take (n + length h) d₁) → n + length h ≤ length d → d₂ ≡ padded (image_of S (part (length h) n d)) (length d)
unfolding image_of
sealed S d h n p q x y le =
    q ∙ (rw (y, p, body-stands d h n le, length-copied d 0 h, length_part (length h) n d le, ← x))

pub finished-not : (S : Shape) (d : List ℕ) (n : ℕ) → fits_in S n (length d) ≡ false → d ≡ finished S d n
unfolding finished
finished-not S d n e = rw e

pub finished-is : (S : Shape) (d : List ℕ) (n : ℕ) → fits_in S n (length d) ≡ true →
    padded (image_of S (part (length (S.header n)) n d)) (length d) ≡ finished S d n
unfolding finished
finished-is S d n e = rw e
