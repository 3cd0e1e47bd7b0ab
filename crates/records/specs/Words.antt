-- An entry record and a vendor block in lent bytes: words of four bytes, low byte first.
-- Assumes nothing.
use Rattle.std.specs.Prelude.{ℕ, ◌-◌, ◌/◌, ◌%◌, List, [], ◌∷◌, ◌++◌, ℤ, pos, negsuc, take, drop, replicate, leb}
use Rattle.layout.specs.declared.Reading.{Reading}
use Rattle.layout.specs.declared.Entry.{Entry}
use Rattle.layout.specs.Bytes.{if}
use Rattle.layout.specs.Calls.{told_reading}
use Rattle.blocks.specs.declared.Block.{Block}
use Rattle.blocks.specs.Offset.{each_offset}

-- a number in four bytes
abbrev pub word_bytes : ℕ → List ℕ
word_bytes n = n % 256 ∷ n / 256 % 256 ∷ n / 65536 % 256 ∷ n / 16777216 % 256 ∷ []

unfoldable pub words_bytes : List ℕ → List ℕ
words_bytes [] = []
words_bytes (w ∷ ws) = word_bytes w ++ words_bytes ws

-- a reading's number and what it carries, in eight words; 0 where it carries nothing
abbrev pub reading_words : Reading → List ℕ
reading_words r = take 8 (told_reading r ++ replicate 8 0)

-- editions 1 to 3: code, kind, place, key, value, 0, reading
abbrev pub former_words : Entry → List ℕ
former_words x =
    x.code ∷ x.kind ∷ x.place.0 ∷ x.key.place.0 ∷ x.key.len ∷ x.value.place.0 ∷ x.value.len ∷ 0 ∷ reading_words x.reading

-- from edition 4 on the length of the whole frame stands in place of the 0
abbrev pub framed_words : Entry → List ℕ
framed_words x = take 7 (former_words x) ++ (x.size ∷ drop 8 (former_words x))

abbrev pub record_words : ℕ → Entry → List ℕ
record_words e x = if (leb 4 e) (λ _. framed_words x) (λ _. former_words x)

-- the record of an entry for an edition
unfoldable pub record_bytes : ℕ → Entry → List ℕ
record_bytes e x = words_bytes (record_words e x)

unfoldable pub records_bytes : ℕ → List Entry → List ℕ
records_bytes e [] = []
records_bytes e (x ∷ xs) = record_bytes e x ++ records_bytes e xs

-- a signed number in a word: itself, or 2^32 more where it is negative
abbrev pub signed_word : ℤ → ℕ
signed_word (pos n) = n
signed_word (negsuc n) = 4294967295 - n

-- the serial's place in the payload and its length, the block's, the eight offsets
abbrev pub block_words : Block → List ℕ
block_words b = b.serial.place.0 ∷ b.serial.len ∷ b.block.place.0 ∷ b.block.len ∷ each_offset signed_word b.offsets

unfoldable pub block_bytes : Block → List ℕ
block_bytes b = words_bytes (block_words b)
