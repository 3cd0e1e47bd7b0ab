-- The hash of a key, and the word that a hash belongs to.
-- Assumes nothing.
use mathlib.Core.Path.{◌≡◌, refl}
use mathlib.Core.List.{List, [], ◌∷◌}
use Prim.Native.Nat.{ℕ, ◌+◌, ◌*◌, ◌%◌, ◌≤◌, ◌<◌}
use native.Mathlib.Nat.{mul-le-mul_right}
use native.Mathlib.Omega.{arith}
use Rattle.std.specs.List.{fold}
use Rattle.keys.specs.Filter.{hash_byte, hash_from, hashed, word_at}

-- a chain over the bytes gives the hash
pub hash_fold : (h : ℕ) (key : List ℕ) → fold hash_byte h key ≡ hash_from h key
unfolding hash_from
hash_fold h [] = refl
hash_fold h (b ∷ bs) = hash_fold (hash_byte h b) bs

-- a hash of 32 bits takes less than its share of n
pub product-most : (h n : ℕ) → h < 4294967296 → h * n ≤ 4294967295 * n
product-most h n lt = mul-le-mul_right n (let le : h ≤ 4294967295 = omega arith in le)

-- which lies among n words, where there are any
pub word_in : (n h : ℕ) → 0 < n → h < 4294967296 → word_at n h < n
unfolding word_at
word_in n h some lt = omega (arith, product-most h (n % 65536) lt)

from-short : (h : ℕ) (key : List ℕ) → h < 4294967296 → hash_from h key < 4294967296
unfolding hash_from hash_byte
from-short h [] lt = lt
from-short h (b ∷ bs) lt = from-short ((h + b) * 0xC2B2AE35 % 4294967296) bs (omega arith)

-- a hash has 32 bits
pub hash-short : (key : List ℕ) → hashed key < 4294967296
unfolding hashed
hash-short key = from-short 5 key (omega arith)
