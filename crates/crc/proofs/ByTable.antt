-- The one fact about checks, over any width of at least eight bits: a byte is taken in by a shift and one table entry, and the bytes after it apart from that entry.
-- Assumes nothing.
use mathlib.Core.Path.{◌≡◌, refl, sym, ap, ap₂, ◌∙◌}
use mathlib.Core.List.{List, [], ◌∷◌, ◌++◌}
use Prim.Native.Nat.{ℕ, zero, suc, ◌+◌, ◌-◌, ◌*◌, ◌/◌, ◌%◌, ◌^◌, ◌≤◌, ◌<◌}
use native.Mathlib.Nat.{mod-lt, mul-mod_left, add-zero, zero-mul, zero-mod, zero-div, mul_assoc, mul_comm, pow-suc, mul-le-mul_left, mul-one, div-one, sub-add_cancel}
use native.Mathlib.Omega.{arith}
use lib.Dec.{lit≤}
use lib.Pow.{pow_pos, split, shl_lt, shl-shr, mod-pow-add}
use lib.ListN.{length}
use lib.Bits.{bit_xor, xor_block, xor_shifted, xor_comm, xor_zero_r}
use Rattle.crc.specs.Crc.{times, single_bit, byte_in, remainder, ahead, check_of}
use Rattle.crc.proofs.Xor.{Linear, xor_assoc, xor-swap}
use Rattle.crc.proofs.SingleBit.{single-bit-linear, single-bit-lt, only-up}

-- A linear step taken n times is linear.
times-linear : (f : ℕ → ℕ) → Linear f → (n : ℕ) → Linear (times f n)
times-linear f h zero a b = refl
times-linear f h (suc n) a b = ap (times f n) (h a b) ∙ times-linear f h n (f a) (f b)

-- One place up and n more are n + 1.
up : (r n : ℕ) → r * 2 * 2 ^ n ≡ r * 2 ^ suc n
up r n = mul_assoc r 2 (2 ^ n) ∙ ap (λ (x : ℕ). r * x) (mul_comm 2 (2 ^ n) ∙ sym (pow-suc 2 n))

-- Bits that do not reach the top in n steps only move up n places.
times-up : (w p n r : ℕ) → r * 2 ^ n < 2 ^ w → times (single_bit w p) n r ≡ r * 2 ^ n
times-up w p zero r h = sym (mul-one r)
times-up w p (suc n) r h =
    let moved : r * 2 * 2 ^ n < 2 ^ w = rw (up r n) h in
    let one : r * 2 * 1 ≤ r * 2 * 2 ^ n = mul-le-mul_left (r * 2) (pow_pos n) in
    ap (times (single_bit w p) n) (only-up w p r (omega arith)) ∙ times-up w p n (r * 2) moved ∙ up r n

-- Of k + 8 bits the low k stay when eight leave.
pub stay : (r k : ℕ) → r * 2 ^ 8 % 2 ^ (k + 8) ≡ r % 2 ^ k * 2 ^ 8
stay r k =
    mod-pow-add (r * 2 ^ 8) k 8
    ∙ ap₂ (λ (x y : ℕ). x % 2 ^ k * 2 ^ 8 + y) (shl-shr r 8) (mul-mod_left r (2 ^ 8))
    ∙ add-zero (r % 2 ^ k * 2 ^ 8)

-- What goes onto the bits from k up leaves those below alone.
onto : (k r b : ℕ) → bit_xor r (b * 2 ^ k) ≡ bit_xor (r % 2 ^ k) (bit_xor (r / 2 ^ k) b * 2 ^ k)
onto k r b =
    let low : r % 2 ^ k < 2 ^ k = mod-lt r (pow_pos k) in
    let top : ℕ = bit_xor (r / 2 ^ k) b in
    ap₂ bit_xor (sym (split r k)) (sym (add-zero (b * 2 ^ k)))
    ∙ xor_block k (r / 2 ^ k) b (r % 2 ^ k) 0 low (pow_pos k)
    ∙ ap (λ (x : ℕ). top * 2 ^ k + x) (xor_zero_r (r % 2 ^ k))
    ∙ sym (xor_shifted top k (r % 2 ^ k) low)
    ∙ xor_comm (top * 2 ^ k) (r % 2 ^ k)

-- Eight single-bit steps of a byte taken in are a shift by eight bits and the table's entry at the top byte (01, FBOSS v5).
pub by-table : (w p r b : ℕ) → 8 ≤ w → byte_in w p r b ≡ bit_xor (r * 2 ^ 8 % 2 ^ w) (remainder w p (bit_xor (r / 2 ^ (w - 8)) b))
unfolding byte_in remainder
by-table w p r b h =
    let k = w - 8 in
    let e : k + 8 ≡ w = sub-add_cancel h in
    let fits : r % 2 ^ k * 2 ^ 8 < 2 ^ w = rw e at (shl_lt k 8 (mod-lt r (pow_pos k))) in
    let kept : r * 2 ^ 8 % 2 ^ w ≡ r % 2 ^ k * 2 ^ 8 = rw e at (stay r k) in
    let top : ℕ = bit_xor (r / 2 ^ k) b * 2 ^ k in
    ap (times (single_bit w p) 8) (onto k r b)
    ∙ times-linear (single_bit w p) (single-bit-linear w p) 8 (r % 2 ^ k) top
    ∙ ap (λ (x : ℕ). bit_xor x (times (single_bit w p) 8 top)) (times-up w p 8 (r % 2 ^ k) fits ∙ sym kept)

-- Of eight bits none stay.
pub by-table8 : (p r b : ℕ) → byte_in 8 p r b ≡ remainder 8 p (bit_xor r b)
by-table8 p r b = rw (mul-mod_left, div-one) at (by-table 8 p r b (lit≤ tt))

-- Bytes and others after them are taken in one part after the other.
pub in_parts : (w p s : ℕ) (bs cs : List ℕ) → check_of w p s (bs ++ cs) ≡ check_of w p (check_of w p s bs) cs
unfolding check_of
in_parts w p s [] cs = refl
in_parts w p s (b ∷ bs) cs = in_parts w p (byte_in w p s b) bs cs

-- A byte taken into a sum goes into one of its parts, and 0 into the other.
byte-in-apart : (w p r s b : ℕ) → byte_in w p (bit_xor r s) b ≡ bit_xor (byte_in w p r 0) (byte_in w p s b)
unfolding byte_in
byte-in-apart w p r s b =
    ap (times (single_bit w p) 8) (rw zero-mul (xor-swap r s 0 (b * 2 ^ (w - 8)))) ∙ times-linear (single_bit w p) (single-bit-linear w p) 8 _ _

-- Bytes taken into a sum go into one of its parts, and as many bytes 0 into the other.
apart : (w p s t : ℕ) (bs : List ℕ) → check_of w p (bit_xor s t) bs ≡ bit_xor (times (λ (r : ℕ). byte_in w p r 0) (length bs) s) (check_of w p t bs)
unfolding check_of
apart w p s t [] = refl
apart w p s t (b ∷ bs) =
    ap (λ (r : ℕ). check_of w p r bs) (byte-in-apart w p s t b) ∙ apart w p (byte_in w p s 0) (byte_in w p t b) bs

-- The first byte of a check is one entry, that for as many bytes as are after it, and these are taken into what stays of r.
pub peel : (w p r b : ℕ) (bs : List ℕ) → 8 ≤ w →
    check_of w p r (b ∷ bs) ≡ bit_xor (ahead w p (length bs) (bit_xor (r / 2 ^ (w - 8)) b)) (check_of w p (r * 2 ^ 8 % 2 ^ w) bs)
unfolding check_of ahead
peel w p r b bs h =
    let kept : ℕ = r * 2 ^ 8 % 2 ^ w in
    let entry : ℕ = remainder w p (bit_xor (r / 2 ^ (w - 8)) b) in
    ap (λ (x : ℕ). check_of w p x bs) (by-table w p r b h ∙ xor_comm kept entry) ∙ apart w p entry kept bs

-- One byte taken into 0 is its entry.
alone : (w p b : ℕ) → 8 ≤ w → check_of w p 0 (b ∷ []) ≡ remainder w p b
unfolding check_of
alone w p b h = rw (zero-mod, zero-div) at (by-table w p 0 b h)

-- A step whose outcomes are below m, taken n times, stays below m.
times-lt : (f : ℕ → ℕ) (m : ℕ) → ((r : ℕ) → f r < m) → (n r : ℕ) → r < m → times f n r < m
times-lt f m h zero r lt = lt
times-lt f m h (suc n) r lt = times-lt f m h n (f r) (h r)

-- An entry fits the width where p does.
pub ahead-lt : (w p n i : ℕ) → p < 2 ^ w → ahead w p n i < 2 ^ w
unfolding ahead remainder byte_in
ahead-lt w p n i h = times-lt (λ (r : ℕ). byte_in w p r 0) (2 ^ w) (λ r. single-bit-lt w p _ h) n (remainder w p i) (single-bit-lt w p _ h)

-- Four bytes taken into eight bits, by an entry for each of them: no bit stays after the first.
pub four-by-table8 : (p r b c d e : ℕ) →
    check_of 8 p r (b ∷ c ∷ d ∷ e ∷ [])
    ≡ bit_xor (bit_xor (bit_xor (ahead 8 p 2 c) (ahead 8 p 1 d)) (remainder 8 p e)) (ahead 8 p 3 (bit_xor r b))
four-by-table8 p r b c d e =
    let h : 8 ≤ 8 = lit≤ tt in
    rw (peel 8 p r b, mul-mod_left, div-one, peel 8 p 0 c, peel 8 p 0 d, alone 8, xor_comm (ahead 8 p 3 (bit_xor r b)), xor_assoc (ahead 8 p 2 c) (ahead 8 p 1 d))

-- Four bytes taken into sixteen bits, by an entry for each of them: no bit stays after the second.
pub four-by-table16 : (p r b c d e : ℕ) →
    check_of 16 p r (b ∷ c ∷ d ∷ e ∷ [])
    ≡ bit_xor (bit_xor (ahead 16 p 1 d) (remainder 16 p e)) (bit_xor (ahead 16 p 3 (bit_xor (r / 2 ^ 8) b)) (ahead 16 p 2 (bit_xor (r % 2 ^ 8) c)))
four-by-table16 p r b c d e =
    let h : 8 ≤ 16 = lit≤ tt in
    let first : ℕ = ahead 16 p 3 (bit_xor (r / 2 ^ 8) b) in
    let second : ℕ = ahead 16 p 2 (bit_xor (r % 2 ^ 8) c) in
    rw (peel 16 p r b, stay r 8, peel 16 p (r % 2 ^ 8 * 2 ^ 8) c, shl-shr, mul_assoc, mul-mod_left, peel 16 p 0 d, alone 16, ← xor_assoc first second, xor_comm (bit_xor first second))
