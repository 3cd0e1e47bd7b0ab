-- An entry record in lent bytes loses nothing: every word of it fits four bytes, and C reads the word back (docs/C-INTERFACE.md, "Layouts in lent bytes").
-- Assumes nothing.
use Rattle.std.specs.Prelude.{ℕ, ◌*◌, ◌≤◌, ◌<◌, ◌≡◌, List, ◌∷◌, ◌++◌, length, get_or, take, replicate}
use Rattle.layout.specs.declared.Entry.{Entry}
use Rattle.layout.specs.Calls.{told_reading, entries_in}
use Rattle.layout.specs.Write.{word}
use Rattle.layout.specs.Each.{Each}
use Rattle.records.specs.Words.{words_bytes, record_words, record_bytes}

-- word k of an edition's record is at byte k × 4, low byte first
pub record WholeRecord (e : ℕ) (x : Entry) : Type 0 where
  pub fits : Each (λ w. w < 4294967296) (record_words e x)
  pub sixteen : length (record_words e x) ≡ 16
  pub read : (k : ℕ) → k < 16 → word (k * 4) (record_bytes e x) ≡ get_or (record_words e x) k 0

-- of every image, which is a list of bytes
abbrev pub WholeRecords : Type 0
WholeRecords = (f e : ℕ) (img : List ℕ) → Each (λ b. b < 256) img → Each (WholeRecord e) (entries_in f e img)

-- the words of a record, with w as word 7
abbrev pub words_with : ℕ → Entry → List ℕ
words_with w x =
    x.code ∷ x.kind ∷ x.place.0 ∷ x.key.place.0 ∷ x.key.len ∷ x.value.place.0 ∷ x.value.len ∷ w ∷ take 8 (told_reading x.reading ++ replicate 8 0)

-- editions 1 to 3 give out, byte for byte, the record of before edition 4; from edition 4 on word 7 is the length of the whole frame
pub record RecordsByEdition : Type 0 where
  pub former : (e : ℕ) (x : Entry) → e ≤ 3 → record_bytes e x ≡ words_bytes (words_with 0 x)
  pub framed : (e : ℕ) (x : Entry) → 4 ≤ e → record_bytes e x ≡ words_bytes (words_with x.size x)
