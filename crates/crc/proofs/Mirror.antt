-- The mirror of a number's low bits: it is linear and its own inverse; and a check whose remainder is kept mirrored, as the one fact about checks gives it.
-- Assumes nothing.
use mathlib.Core.Path.{◌≡◌, refl, sym, ap, ap₂, ◌∙◌}
use mathlib.Core.List.{List, [], ◌∷◌, ◌++◌, map, map-append}
use Prim.Native.Nat.{ℕ, zero, suc, ◌+◌, ◌-◌, ◌*◌, ◌/◌, ◌%◌, ◌^◌, ◌≤◌, ◌<◌}
use native.Mathlib.Nat.{mod-lt, mod-one, mod-eq_of_lt, div-eq_of_lt, div-one, lt_of_le_of_lt, add-zero, zero-add, add-suc, mul-one, pow-suc, mul_assoc, sub-add_cancel}
use native.Mathlib.Numerals.{one-add}
use native.Mathlib.Omega.{arith}
use lib.Arith.{digits_lt, digits_div, digits_mod}
use lib.Dec.{lit<, lit≤}
use lib.ListN.{length}
use lib.Pow.{shr-shr, high, low, mod-pow-add, shr_le}
use lib.Bits.{bit_xor, xor_shr, xor_mod, xor_block, xor_comm, xor_self, xor_zero_r}
use Rattle.crc.specs.Crc.{byte_in, remainder, ahead, check_of, mirror, mirrored, polynomial32, check32_of}
use Rattle.crc.proofs.Xor.{Linear, xor_assoc}
use Rattle.crc.proofs.ByTable.{stay, in_parts, peel, ahead-lt}

-- A mirror of n bits fits n bits.
mirror-lt : (n x : ℕ) → mirror n x < 2 ^ n
unfolding mirror
mirror-lt zero x = lit< tt
mirror-lt (suc n) x = rw (pow-suc 2 n) (digits_lt (mirror-lt n x) (mod-lt (x / 2 ^ n) (lit< tt)))

-- A mirror is linear.
mirror-linear : (n : ℕ) → Linear (mirror n)
unfolding mirror
mirror-linear zero a b = refl
mirror-linear (suc n) a b =
    let bit : (x : ℕ) → x / 2 ^ n % 2 < 2 = λ x. mod-lt (x / 2 ^ n) (lit< tt) in
    ap₂ (λ (x y : ℕ). x * 2 + y) (mirror-linear n a b) (ap (λ (x : ℕ). x % 2) (xor_shr a b n) ∙ xor_mod (a / 2 ^ n) (b / 2 ^ n) 1)
    ∙ sym (xor_block 1 (mirror n a) (mirror n b) (a / 2 ^ n % 2) (b / 2 ^ n % 2) (bit a) (bit b))

-- The mirror of 0 is 0.
mirror-zero : (n : ℕ) → mirror n 0 ≡ 0
mirror-zero n = mirror-linear n 0 0 ∙ xor_self (mirror n 0)

-- The mirror of n + k bits has the n low ones at the top and the k others below.
parts : (n k x : ℕ) → mirror (n + k) x ≡ mirror n x * 2 ^ k + mirror k (x / 2 ^ n)
unfolding mirror
parts n zero x = rw (add-zero n, mul-one (mirror n x), add-zero (mirror n x)) refl
parts n (suc k) x =
    let top : mirror n x * 2 ^ suc k ≡ mirror n x * 2 ^ k * 2 = rw (pow-suc 2 k) (sym (mul_assoc (mirror n x) (2 ^ k) 2)) in
    rw (add-suc n k, top, parts n k x, shr-shr x n k) (omega arith)

-- The mirror of a mirror has the n low bits.
mirror-twice : (n x : ℕ) → mirror n (mirror n x) ≡ x % 2 ^ n
unfolding mirror
mirror-twice zero x = sym (mod-one x)
mirror-twice (suc n) x =
    let m : ℕ = mirror n x in
    let b : ℕ = x / 2 ^ n % 2 in
    let lt : b < 2 = mod-lt (x / 2 ^ n) (lit< tt) in
    let apart = parts 1 n (m * 2 + b) in
    rw (one-add n, div-one, zero-add, digits_mod m lt, digits_div m lt, mirror-twice n x) at apart ∙ sym (rw one-add at (mod-pow-add x 1 n))

-- The mirror of a number that fits, mirrored, is the number.
pub mirror-back : (n : ℕ) {x : ℕ} → x < 2 ^ n → mirror n (mirror n x) ≡ x
mirror-back n {x} h = mirror-twice n x ∙ mod-eq_of_lt h

-- A mirror has the low bits alone.
mirror-low : (n x : ℕ) → mirror n (x % 2 ^ n) ≡ mirror n x
mirror-low n x = ap (mirror n) (sym (mirror-twice n x)) ∙ mirror-back n (mirror-lt n x)

-- The top byte of a mirror is the mirror of the low byte.
top : (w r : ℕ) → 8 ≤ w → mirror w r / 2 ^ (w - 8) ≡ mirror 8 (r % 2 ^ 8)
top w r h =
    let k = w - 8 in
    let e : 8 + k ≡ w = omega arith in
    ap (λ (x : ℕ). x / 2 ^ k) (rw e at (parts 8 k r)) ∙ high (mirror 8 r) k (mirror-lt k (r / 2 ^ 8)) ∙ sym (mirror-low 8 r)

-- Eight places up, within w bits, are eight places down in the mirror.
kept : (w r : ℕ) → 8 ≤ w → r < 2 ^ w → mirror w r * 2 ^ 8 % 2 ^ w ≡ mirror w (r / 2 ^ 8)
kept w r h lt =
    let k = w - 8 in
    let e : k + 8 ≡ w = sub-add_cancel h in
    let e' : 8 + k ≡ w = omega arith in
    let stays : ℕ = mirror k (r / 2 ^ 8) * 2 ^ 8 in
    let none : mirror 8 (r / 2 ^ 8 / 2 ^ k) ≡ 0 = rw (shr-shr r 8 k, e', div-eq_of_lt lt) (mirror-zero 8) in
    (rw e at (stay (mirror w r) k))
    ∙ ap (λ (x : ℕ). x * 2 ^ 8) (ap (λ (x : ℕ). x % 2 ^ k) (rw e' at (parts 8 k r)) ∙ low (mirror 8 r) k (mirror-lt k (r / 2 ^ 8)))
    ∙ sym ((rw e at (parts k 8 (r / 2 ^ 8))) ∙ ap (λ (x : ℕ). stays + x) none ∙ add-zero stays)

-- The first byte of a check whose remainder is kept mirrored is one entry, and the bytes after it are taken into the remainder eight places down.
peel-mirrored : (w p r b : ℕ) (bs : List ℕ) → 8 ≤ w → p < 2 ^ w → r < 2 ^ w →
    check_of w p (mirror w r) (mirror 8 b ∷ bs)
    ≡ bit_xor (mirror w (mirrored w (ahead w p (length bs)) (bit_xor (r % 2 ^ 8) b))) (check_of w p (mirror w (r / 2 ^ 8)) bs)
unfolding mirrored
peel-mirrored w p r b bs h fits lt =
    peel w p (mirror w r) (mirror 8 b) bs h
    ∙ ap₂ (λ (x y : ℕ). bit_xor (ahead w p (length bs) x) (check_of w p y bs))
    (ap (λ (x : ℕ). bit_xor x (mirror 8 b)) (top w r h) ∙ sym (mirror-linear 8 (r % 2 ^ 8) b)) (kept w r h lt)
    ∙ ap (λ (x : ℕ). bit_xor x (check_of w p (mirror w (r / 2 ^ 8)) bs)) (sym (mirror-back w (ahead-lt w p (length bs) _ fits)))

-- A mirrored byte taken into a remainder that is kept mirrored, by one entry.
pub by-table-mirrored : (w p r b : ℕ) → 8 ≤ w → p < 2 ^ w → r < 2 ^ w →
    mirror w (bit_xor (r / 2 ^ 8) (mirrored w (remainder w p) (bit_xor (r % 2 ^ 8) b))) ≡ byte_in w p (mirror w r) (mirror 8 b)
unfolding check_of ahead
by-table-mirrored w p r b h fits lt =
    let entry : ℕ = mirrored w (remainder w p) (bit_xor (r % 2 ^ 8) b) in
    mirror-linear w (r / 2 ^ 8) entry ∙ xor_comm (mirror w (r / 2 ^ 8)) (mirror w entry) ∙ sym (peel-mirrored w p r b [] h fits lt)

-- Four mirrored bytes taken into thirty-two bits that are kept mirrored, by an entry for each of them: no bit stays after the fourth.
pub four-by-table32 : (p r b c d e : ℕ) → p < 2 ^ 32 → r < 2 ^ 32 →
    mirror 32 (bit_xor
    (bit_xor (mirrored 32 (ahead 32 p 3) (bit_xor (r % 2 ^ 8) b)) (mirrored 32 (ahead 32 p 2) (bit_xor (r / 2 ^ 8 % 2 ^ 8) c)))
    (bit_xor (mirrored 32 (ahead 32 p 1) (bit_xor (r / 2 ^ 16 % 2 ^ 8) d)) (mirrored 32 (remainder 32 p) (bit_xor (r / 2 ^ 16 / 2 ^ 8 % 2 ^ 8) e))))
    ≡ check_of 32 p (mirror 32 r) (map (mirror 8) (b ∷ c ∷ d ∷ e ∷ []))
unfolding check_of ahead
four-by-table32 p r b c d e fits lt =
    let h : 8 ≤ 32 = lit≤ tt in
    let r₁ : ℕ = r / 2 ^ 8 in
    let r₂ : ℕ = r / 2 ^ 16 in
    let r₃ : ℕ = r₂ / 2 ^ 8 in
    let lt₁ : r₁ < 2 ^ 32 = lt_of_le_of_lt (shr_le r 8) lt in
    let lt₂ : r₂ < 2 ^ 32 = lt_of_le_of_lt (shr_le r 16) lt in
    let lt₃ : r₃ < 2 ^ 32 = lt_of_le_of_lt (shr_le r₂ 8) lt₂ in
    let none : mirror 32 (r₃ / 2 ^ 8) ≡ 0 = rw (shr-shr r 16 8, shr-shr r 24 8, div-eq_of_lt lt) (mirror-zero 32) in
    let t₃ : ℕ = mirrored 32 (ahead 32 p 3) (bit_xor (r % 2 ^ 8) b) in
    let t₂ : ℕ = mirrored 32 (ahead 32 p 2) (bit_xor (r₁ % 2 ^ 8) c) in
    let t₁ : ℕ = mirrored 32 (ahead 32 p 1) (bit_xor (r₂ % 2 ^ 8) d) in
    let t₀ : ℕ = mirrored 32 (remainder 32 p) (bit_xor (r₃ % 2 ^ 8) e) in
    let m : ℕ → ℕ = mirror 8 in
    ap (mirror 32) (xor_assoc t₃ t₂ (bit_xor t₁ t₀))
    ∙ mirror-linear 32 t₃ _ ∙ ap (bit_xor (mirror 32 t₃)) (mirror-linear 32 t₂ _ ∙ ap (bit_xor (mirror 32 t₂)) (mirror-linear 32 t₁ t₀))
    ∙ sym (
    peel-mirrored 32 p r b (m c ∷ m d ∷ m e ∷ []) h fits lt
    ∙ ap (bit_xor (mirror 32 t₃)) (peel-mirrored 32 p r₁ c (m d ∷ m e ∷ []) h fits lt₁
    ∙ ap (bit_xor (mirror 32 t₂)) (ap (λ (x : ℕ). check_of 32 p (mirror 32 x) (m d ∷ m e ∷ [])) (shr-shr r 8 8) ∙ peel-mirrored 32 p r₂ d (m e ∷ []) h fits lt₂
    ∙ ap (bit_xor (mirror 32 t₁)) (peel-mirrored 32 p r₃ e [] h fits lt₃ ∙ ap (bit_xor (mirror 32 t₀)) none ∙ xor_zero_r (mirror 32 t₀)))))

-- Bytes after others, all mirrored, are taken in after them.
pub mirrored-parts : (w p s : ℕ) (bs cs : List ℕ) →
    check_of w p (check_of w p s (map (mirror 8) bs)) (map (mirror 8) cs) ≡ check_of w p s (map (mirror 8) (bs ++ cs))
mirrored-parts w p s bs cs = sym (ap (check_of w p s) (map-append (mirror 8) bs cs) ∙ in_parts w p s (map (mirror 8) bs) (map (mirror 8) cs))

-- The check of bytes that are all taken in, with the remainder kept mirrored: the final change of the remainder.
pub final-change : (r : ℕ) (bs : List ℕ) → r < 2 ^ 32 → mirror 32 r ≡ check_of 32 polynomial32 0xFFFFFFFF (map (mirror 8) bs) → bit_xor r 0xFFFFFFFF ≡ check32_of bs
unfolding check32_of
final-change r bs lt e = ap (λ (x : ℕ). bit_xor x 0xFFFFFFFF) (sym (mirror-back 32 lt) ∙ ap (mirror 32) e)
