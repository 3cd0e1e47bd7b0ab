-- Exclusive or: it is associative, and functions that keep it are linear.
-- Assumes nothing.
use mathlib.Core.Path.{◌≡◌, refl, sym, ap, ap₂, ◌∙◌}
use Prim.Native.Nat.{ℕ, zero, suc, ◌+◌, ◌*◌, ◌/◌, ◌%◌, ◌<◌}
use native.Mathlib.Nat.{mod-lt, add-zero}
use native.Mathlib.Omega.{arith}
use lib.Arith.{bin_ind}
use lib.Dec.{lit<}
use lib.Bits.{bit_xor, differ, xor_step, xor_shr, xor_mod, xor_block, xor_comm}

-- A number that is a single bit.
pub data Bit : ℕ → Type 0 where
  off : Bit 0
  on : Bit 1

-- The lowest bit of a number.
pub bit : (n : ℕ) → Bit (n % 2)
bit n = go (n % 2) (mod-lt n (lit< tt))
  where
    go : (m : ℕ) → m < 2 → Bit m
    go zero h = off
    go (suc zero) h = on
    go (suc (suc m)) h = absurd (omega arith)

-- Single bits are associative.
bit-assoc : {x y z : ℕ} → Bit x → Bit y → Bit z → differ (bit_xor x y) z ≡ differ x (bit_xor y z)
bit-assoc off off z = refl
bit-assoc off on off = refl
bit-assoc off on on = refl
bit-assoc on off z = refl
bit-assoc on on off = refl
bit-assoc on on on = refl

-- Numbers are, bit by bit.
pub xor_assoc : (a b c : ℕ) → bit_xor (bit_xor a b) c ≡ bit_xor a (bit_xor b c)
xor_assoc =
    bin_ind (λ (n : ℕ). (b c : ℕ) → bit_xor (bit_xor n b) c ≡ bit_xor n (bit_xor b c)) (λ b c. refl)
    (λ n ih b c.
    xor_step (bit_xor n b) c
    ∙ ap₂ (λ (x y : ℕ). bit_xor x (c / 2) * 2 + differ y (c % 2)) (xor_shr n b 1) (xor_mod n b 1)
    ∙ ap₂ (λ (x y : ℕ). x * 2 + y) (ih (b / 2) (c / 2)) (bit-assoc (bit n) (bit b) (bit c))
    ∙ ap₂ (λ (x y : ℕ). bit_xor (n / 2) x * 2 + differ (n % 2) y) (sym (xor_shr b c 1)) (sym (xor_mod b c 1))
    ∙ sym (xor_step n (bit_xor b c)))

-- Of four numbers the two in the middle change places.
pub xor-swap : (a b c d : ℕ) → bit_xor (bit_xor a b) (bit_xor c d) ≡ bit_xor (bit_xor a c) (bit_xor b d)
xor-swap a b c d =
    xor_assoc a b (bit_xor c d)
    ∙ ap (bit_xor a) (sym (xor_assoc b c d) ∙ ap (λ (x : ℕ). bit_xor x d) (xor_comm b c) ∙ xor_assoc c b d)
    ∙ sym (xor_assoc a c (bit_xor b d))

-- A function that keeps exclusive or.
abbrev pub Linear : (ℕ → ℕ) → Type 0
Linear f = (a b : ℕ) → f (bit_xor a b) ≡ bit_xor (f a) (f b)

-- Doubling is linear.
pub double-linear : Linear (λ (r : ℕ). r * 2)
double-linear a b = sym (simp add-zero at (xor_block 1 a b 0 0 (lit< tt) (lit< tt)))
