-- Checks over a width w, a polynomial p and a start s: high bit first, nothing reflected, no final change (01, FBOSS v5 and Tiny version 2);
-- and the reflected one, which is the same check of mirrored bytes, mirrored, with a final change (02, ONIE images and edition 3).
-- Assumes nothing.
use Rattle.std.specs.Prelude.{List, [], ◌∷◌, map, ℕ, zero, suc, ◌+◌, ◌-◌, ◌*◌, ◌/◌, ◌%◌, ◌^◌}
use Rattle.std.specs.Int.Bits.{bit_xor}

-- f taken n times, for the eight single-bit steps of 01, FBOSS v5.
abbrev pub times : (ℕ → ℕ) → (n r : ℕ) → ℕ
times f zero r = r
times f (suc n) r = times f n (f r)

-- A single-bit step: the remainder moves up one place within w bits, and p comes off where the bit that left at the top is 1 (01, FBOSS v5).
unfoldable pub single_bit : (w p r : ℕ) → ℕ
single_bit w p r = bit_xor (r * 2 % 2 ^ w) (r * 2 / 2 ^ w % 2 * p)

-- A byte taken in: it goes onto the top eight bits, and eight single-bit steps follow (01, FBOSS v5).
unfoldable pub byte_in : (w p r b : ℕ) → ℕ
byte_in w p r b = times (single_bit w p) 8 (bit_xor r (b * 2 ^ (w - 8)))

-- The remainder of the top byte i alone, a table's entry: eight single-bit steps (01, FBOSS v5).
unfoldable pub remainder : (w p i : ℕ) → ℕ
remainder w p i = times (single_bit w p) 8 (i * 2 ^ (w - 8))

-- The remainder of the top byte i with n bytes 0 after it, an entry of the table for a byte that is taken in with n others after it.
unfoldable pub ahead : (w p n i : ℕ) → ℕ
ahead w p n i = times (λ (r : ℕ). byte_in w p r 0) n (remainder w p i)

-- The check of a list of bytes: each is taken in, one after the other, from the start s (01, FBOSS v5).
unfoldable pub check_of : (w p s : ℕ) → List ℕ → ℕ
check_of w p s [] = s
check_of w p s (b ∷ bs) = check_of w p (byte_in w p s b) bs

-- The polynomial of the 16-bit check, 1021h (01, FBOSS v5).
abbrev pub polynomial16 : ℕ
polynomial16 = 0x1021

-- The 16-bit check, with start 1D0Fh (01, FBOSS v5).
unfoldable pub check16_of : List ℕ → ℕ
check16_of bs = check_of 16 polynomial16 0x1D0F bs

-- The polynomial of the 8-bit check, 07h (01, Tiny version 2).
abbrev pub polynomial8 : ℕ
polynomial8 = 0x07

-- The 8-bit check from the start s (01, Tiny version 2, whose start is 0).
unfoldable pub check8_of : ℕ → List ℕ → ℕ
check8_of s bs = check_of 8 polynomial8 s bs

-- The n low bits of x, the lowest at the top (02, ONIE images and edition 3: reflected).
unfoldable pub mirror : (n x : ℕ) → ℕ
mirror zero x = 0
mirror (suc n) x = mirror n x * 2 + x / 2 ^ n % 2

-- An entry of a table for a remainder of w bits that is kept mirrored: that of f for the mirrored byte, mirrored.
unfoldable pub mirrored : (w : ℕ) → (ℕ → ℕ) → (i : ℕ) → ℕ
mirrored w f i = mirror w (f (mirror 8 i))

-- The polynomial of the 32-bit check, 04C11DB7h (02, ONIE images and edition 3).
abbrev pub polynomial32 : ℕ
polynomial32 = 0x04C11DB7

-- The 32-bit check, reflected, with start FFFFFFFFh and final change FFFFFFFFh (02, ONIE images and edition 3).
unfoldable pub check32_of : List ℕ → ℕ
check32_of bs = bit_xor (mirror 32 (check_of 32 polynomial32 0xFFFFFFFF (map (mirror 8) bs))) 0xFFFFFFFF
