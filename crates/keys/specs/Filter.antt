-- A filter of keys: words in which each key that is noted sets bits of one word, by its hash.
-- Assumes nothing.
use Rattle.std.specs.Prelude.{ℕ, ◌+◌, ◌*◌, ◌/◌, ◌%◌, ◌^◌, List, [], ◌∷◌, Bool, true, length, get_or, set, leb, eqb}
use Rattle.std.specs.Int.Bits.{bit_or}
use Rattle.layout.specs.declared.Format.{Format}
use Rattle.layout.specs.declared.Format.TheVariants.{Fboss, Vpd, Tiny, Onie}
use Rattle.layout.specs.Bytes.{if}

-- one byte taken into a hash of 32 bits
unfoldable pub hash_byte : ℕ → ℕ → ℕ
hash_byte h b = (h + b) * 0xC2B2AE35 % 4294967296

unfoldable pub hash_from : ℕ → List ℕ → ℕ
hash_from h [] = h
hash_from h (b ∷ bs) = hash_from (hash_byte h b) bs

-- the hash of a key, started at 5 (D29): started at 0, bytes 00h before a key would leave its hash the same
unfoldable pub hashed : List ℕ → ℕ
hashed key = hash_from 5 key

-- which of n words a hash belongs to
unfoldable pub word_at : ℕ → ℕ → ℕ
word_at n h = h * (n % 65536) / 2 ^ 32

unfoldable pub bit_at : ℕ → ℕ
bit_at x = 2 ^ (x % 64)

-- the bits of its word that a hash sets, at most four
unfoldable pub mask : ℕ → ℕ
mask h = bit_or (bit_or (bit_or (bit_at (h * 0x85EBCA6B / 2 ^ 14)) (bit_at (h * 0x85EBCA6B / 2 ^ 20))) (bit_at (h * 0x85EBCA6B / 2 ^ 26))) (bit_at (h * 0x85EBCA6B / 2 ^ 32))

-- whether a word has all bits of a mask
abbrev pub has_mask : ℕ → ℕ → Bool
has_mask w m = eqb (bit_or w m) w

-- the filter once a key is noted
unfoldable pub noted : List ℕ → List ℕ → List ℕ
noted words key = let at = word_at (length words) (hashed key) in set words at (bit_or (get_or words at 0) (mask (hashed key)))

-- whether a key may have been noted: one that was noted, and by chance another; always where there are no words
unfoldable pub may_know : List ℕ → List ℕ → Bool
may_know words key = if (eqb (length words) 0) (λ _. true) (λ _. has_mask (get_or words (word_at (length words) (hashed key)) 0) (mask (hashed key)))

-- whether an entry of code 01h with this key may have been noted; always of another code
unfoldable pub may_repeat : List ℕ → ℕ → List ℕ → Bool
may_repeat words code key = if (eqb code 1) (λ _. may_know words key) (λ _. true)

-- the filter once an entry of this code and key was passed
unfoldable pub with_key : List ℕ → ℕ → List ℕ → List ℕ
with_key words code key = if (eqb code 1) (λ _. noted words key) (λ _. words)

-- how many keys there can be among so many entries: only those of VPD have keys
abbrev pub key_count : Format → ℕ → ℕ
key_count Fboss n = 0
key_count Vpd n = n
key_count Tiny n = 0
key_count Onie n = 0

-- the words of a filter for few keys, for more of them, and for any number
abbrev pub few_words : ℕ
few_words = 64

abbrev pub more_words : ℕ
more_words = 256

abbrev pub many_words : ℕ
many_words = 6656

-- the words of the filter for so many keys: none for three or fewer, else the first of these sizes that has a word for each two of them, or the largest
unfoldable pub filter_words : ℕ → ℕ
filter_words keys =
    if (leb keys 3) (λ _. 0)
    (λ _. if (leb (keys / 2) few_words) (λ _. few_words)
    (λ _. if (leb (keys / 2) more_words) (λ _. more_words)
    (λ _. many_words)))
