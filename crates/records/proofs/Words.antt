-- Words over lent bytes, one after another.
-- Assumes nothing.
use Prim.Native.Nat.{ℕ, ◌+◌, ◌*◌, ◌/◌, ◌≤◌, ◌<◌}
use mathlib.Core.Path.{◌≡◌, refl, ap, sym, ◌∙◌}
use mathlib.Core.List.{List, [], ◌∷◌, ◌++◌}
use native.Mathlib.Numerals.{add-one}
use native.Mathlib.Omega.{arith}
use lib.ListN.{length, get_or, take, length-append}
use lib.Seq.{take_all, take-suc, length-take-le}
use lib.Dec.{leb}
use Rattle.std.specs.Int.{w64, to_le_bytes}
use Rattle.layout.proofs.Choices.{either}
use Rattle.layout.proofs.Lists.{joined-append}
use Rattle.output.specs.Placing.{over, copied}
use Rattle.output.proofs.Overlay.{length_over, over-nil, over-over, copied-over, copied-not}
use Rattle.layout.specs.declared.Reading.{Reading}
use Rattle.layout.specs.declared.Reading.TheVariants.{Plain, Text, Number, Addresses, Numbered, Tests, Identified, Batched, Dated, Timed}
use Rattle.layout.specs.declared.Entry.{Entry}
use Rattle.layout.specs.Calls.{told_reading}
use Rattle.blocks.specs.declared.Block.{Block}
use Rattle.records.specs.Words.{word_bytes, words_bytes, reading_words, record_words, record_bytes, records_bytes, block_words, block_bytes}

-- the eight bytes of a number of 64 bits are those of its low word and of its high word
pub long-bytes : (n : ℕ) → to_le_bytes w64 n ≡ words_bytes (n ∷ n / 4294967296 ∷ [])
unfolding words_bytes
long-bytes n =
    let five : n / 1099511627776 ≡ n / 4294967296 / 256 = omega arith in
    let six : n / 281474976710656 ≡ n / 4294967296 / 65536 = omega arith in
    let seven : n / 72057594037927936 ≡ n / 4294967296 / 16777216 = omega arith in
    rw (five, six, seven)

pub length-words : (ws : List ℕ) → length (words_bytes ws) ≡ length ws * 4
unfolding words_bytes
length-words [] = refl
length-words (w ∷ ws) = let q = length-words ws in omega (arith, q)

words_snoc : (ws : List ℕ) (w : ℕ) → words_bytes (ws ++ (w ∷ [])) ≡ words_bytes ws ++ word_bytes w
unfolding words_bytes
words_snoc ws w = joined-append words_bytes word_bytes refl (λ x xs. refl) ws (w ∷ [])

words-none : words_bytes [] ≡ []
unfolding words_bytes
words-none = refl

-- the first i words are written over d, from place a on
abbrev pub Putting : (d : List ℕ) (a : ℕ) (ws out : List ℕ) (i : ℕ) → Type 0
Putting d a ws out i = (i ≤ length ws) × (out ≡ over d a (words_bytes (take i ws)))

pub putting-starts : (d : List ℕ) (a : ℕ) (ws : List ℕ) → Putting d a ws d 0
putting-starts d a ws = (omega arith, sym (ap (over d a) words-none ∙ over-nil d a))

module _ (d : List ℕ) (a : ℕ) (ws out : List ℕ) (i : ℕ) (le : a + length ws * 4 ≤ length d) (inv : Putting d a ws out i) where
  long : length (words_bytes (take i ws)) ≡ i * 4
  long = length-words (take i ws) ∙ ap (λ (n : ℕ). n * 4) (length-take-le i ws inv.0)

  pub putting-length : length out ≡ length d
  putting-length = ap length inv.1 ∙ length_over d a (words_bytes (take i ws)) (omega (arith, long, inv.0))

  pub puts : (out' : List ℕ) → i < length ws → out' ≡ copied out (a + i * 4) (word_bytes (get_or ws i 0)) → Putting d a ws out' (i + 1)
  puts out' lt is =
      let w = word_bytes (get_or ws i 0) in
      let s = words_bytes (take i ws) in
      let more : words_bytes (take (i + 1) ws) ≡ s ++ w = rw (add-one, take-suc ws i 0) (words_snoc (take i ws) (get_or ws i 0)) in (
        omega arith,
        is
            ∙ copied-over out (a + i * 4) w (omega (arith, putting-length))
            ∙ ap (λ (x : List ℕ). over x (a + i * 4) w) inv.1
            ∙ over-over d a s w (a + i * 4) (omega arith) (omega (arith, long))
            ∙ ap (over d a) (sym more),
      )

  pub put_all : length ws ≤ i → out ≡ copied d a (words_bytes ws)
  put_all ge = inv.1 ∙ ap (λ (x : List ℕ). over d a (words_bytes x)) (take_all i ws ge) ∙ sym (copied-over d a (words_bytes ws) (omega (arith, length-words ws)))

-- where they do not fit
pub not-put : (d : List ℕ) (a : ℕ) (ws : List ℕ) → length d < a + length ws * 4 → d ≡ copied d a (words_bytes ws)
not-put d a ws lt = copied-not d a (words_bytes ws) (omega (arith, length-words ws))

-- a reading has eight words
pub reading-eight : (r : Reading) → let w = reading_words r in
    get_or w 0 0 ∷ get_or w 1 0 ∷ get_or w 2 0 ∷ get_or w 3 0 ∷ get_or w 4 0 ∷ get_or w 5 0 ∷ get_or w 6 0 ∷ get_or w 7 0 ∷ [] ≡ w
unfolding told_reading
reading-eight Plain = refl
reading-eight Text = refl
reading-eight (Number n) = refl
reading-eight (Addresses base count) = refl
reading-eight (Numbered s) = refl
reading-eight (Tests byte n) = refl
reading-eight (Identified x) = refl
reading-eight (Batched x batch) = refl
reading-eight (Dated d) = refl
reading-eight (Timed d t) = refl

-- a record has 16 words and 64 bytes, whatever the edition
pub record-sixteen : (e : ℕ) (x : Entry) → length (record_words e x) ≡ 16
record-sixteen e x =
    let n : length (reading_words x.reading) ≡ 8 = sym (ap length (reading-eight x.reading)) in either (λ ws. length ws ≡ 16) (leb 4 e) (λ _. omega (arith, n)) (λ _. omega (arith, n))

pub length-record : (e : ℕ) (x : Entry) → length (record_bytes e x) ≡ 64
unfolding record_bytes
length-record e x = omega (arith, length-words (record_words e x), record-sixteen e x)

pub length-records : (e : ℕ) (xs : List Entry) → length (records_bytes e xs) ≡ length xs * 64
unfolding records_bytes
length-records e [] = refl
length-records e (x ∷ xs) = let q = length-records e xs in omega (arith, q, length-record e x, length-append (record_bytes e x) (records_bytes e xs))

-- a block has 48 bytes
pub length-block : (b : Block) → length (block_bytes b) ≡ 48
unfolding block_bytes
length-block b = length-words (block_words b)
