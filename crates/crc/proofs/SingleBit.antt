-- A single-bit step, of any width: it is linear, and is known by the bit that leaves at the top.
-- Assumes nothing.
use mathlib.Core.Path.{◌≡◌, sym, ap, ap₂, ◌∙◌}
use Prim.Native.Nat.{ℕ, ◌*◌, ◌/◌, ◌%◌, ◌^◌, ◌<◌}
use native.Mathlib.Nat.{mod-lt, mod-eq_of_lt, div-eq_of_lt, zero-mul, one-mul}
use lib.Pow.{pow_pos}
use lib.Bits.{bit_xor, xor_shr, xor_mod, xor_zero_r, xor_self, xor_lt}
use Rattle.crc.specs.Crc.{single_bit}
use Rattle.crc.proofs.Xor.{Bit, off, on, bit, xor-swap, Linear, double-linear}

-- What one bit takes off is linear in the bit.
product-linear : (p : ℕ) {x y : ℕ} → Bit x → Bit y → bit_xor x y * p ≡ bit_xor (x * p) (y * p)
product-linear p {y} off _ = sym (ap (λ (z : ℕ). bit_xor z (y * p)) (zero-mul p))
product-linear p on off = sym (ap (bit_xor (1 * p)) (zero-mul p) ∙ xor_zero_r (1 * p))
product-linear p on on = zero-mul p ∙ sym (xor_self (1 * p))

-- The step is linear.
pub single-bit-linear : (w p : ℕ) → Linear (single_bit w p)
unfolding single_bit
single-bit-linear w p a b =
    let doubled : bit_xor a b * 2 ≡ bit_xor (a * 2) (b * 2) = double-linear a b in
    let moved : bit_xor a b * 2 % 2 ^ w ≡ bit_xor (a * 2 % 2 ^ w) (b * 2 % 2 ^ w) = rw doubled (xor_mod (a * 2) (b * 2) w) in
    let top : bit_xor a b * 2 / 2 ^ w % 2 ≡ bit_xor (a * 2 / 2 ^ w % 2) (b * 2 / 2 ^ w % 2) =
    rw (doubled, xor_shr (a * 2) (b * 2) w) (xor_mod (a * 2 / 2 ^ w) (b * 2 / 2 ^ w) 1) in
    ap₂ bit_xor moved (ap (λ (x : ℕ). x * p) top ∙ product-linear p (bit (a * 2 / 2 ^ w)) (bit (b * 2 / 2 ^ w)))
    ∙ xor-swap (a * 2 % 2 ^ w) (b * 2 % 2 ^ w) (a * 2 / 2 ^ w % 2 * p) (b * 2 / 2 ^ w % 2 * p)

-- Where a 0 leaves at the top, the step only moves up.
top-off : (w p r : ℕ) → r * 2 / 2 ^ w % 2 ≡ 0 → single_bit w p r ≡ r * 2 % 2 ^ w
unfolding single_bit
top-off w p r e = ap (λ (x : ℕ). bit_xor (r * 2 % 2 ^ w) x) (ap (λ (x : ℕ). x * p) e ∙ zero-mul p) ∙ xor_zero_r (r * 2 % 2 ^ w)

-- Bits that do not reach the top only move up.
pub only-up : (w p r : ℕ) → r * 2 < 2 ^ w → single_bit w p r ≡ r * 2
only-up w p r h = top-off w p r (ap (λ (x : ℕ). x % 2) (div-eq_of_lt h)) ∙ mod-eq_of_lt h

-- What one bit takes off fits where p does.
product_lt : (w p : ℕ) {x : ℕ} → Bit x → p < 2 ^ w → x * p < 2 ^ w
product_lt w p off h = rw zero-mul (pow_pos w)
product_lt w p on h = rw one-mul h

-- A step's outcome fits the width where p does.
pub single-bit-lt : (w p r : ℕ) → p < 2 ^ w → single_bit w p r < 2 ^ w
unfolding single_bit
single-bit-lt w p r h =
    xor_lt w (r * 2 % 2 ^ w) (r * 2 / 2 ^ w % 2 * p) (mod-lt (r * 2) (pow_pos w)) (product_lt w p (bit (r * 2 / 2 ^ w)) h)
