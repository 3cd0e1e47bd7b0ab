-- Records in lent bytes lose nothing.
-- Assumes nothing.
use Prim.Native.Nat.{ℕ, zero, suc, ◌+◌, ◌*◌, ◌/◌, ◌%◌, ◌≤◌, ◌<◌}
use mathlib.Core.Path.{◌≡◌, refl, ◌∙◌}
use mathlib.Core.List.{List, [], ◌∷◌, ◌++◌}
use mathlib.Core.Bool.{Bool, false}
use native.Mathlib.Omega.{arith}
use lib.ListN.{length, get_or, replicate, get_or-append}
use lib.Seq.{get_or-append-add}
use lib.Dec.{leb}
use borrow.Author.Tests.{le-leb, lt-leb}
use Rattle.layout.specs.declared.Format.{Format}
use Rattle.layout.specs.declared.Format.TheVariants.{Fboss, Vpd, Tiny, Onie}
use Rattle.layout.specs.declared.Entry.{Entry}
use Rattle.layout.specs.declared.Reading.TheVariants.{Plain}
use Rattle.layout.specs.Fboss.{fboss}
use Rattle.layout.specs.Vpd.{vpd}
use Rattle.layout.specs.Tiny.{tiny}
use Rattle.layout.specs.Onie.{onie}
use Rattle.layout.specs.Editions.{shape, names, kind}
use Rattle.layout.specs.Walk.{Raw, content, flat}
use Rattle.layout.specs.Read.{limit, Read, accepted, refused, read_image}
use Rattle.layout.specs.Calls.{told_reading, entry_of, entries_of, entries_by, entries_in}
use Rattle.layout.specs.Write.{word}
use Rattle.layout.specs.Each.{Each, none, also}
use Rattle.laws.specs.Grammar.{grammar}
use Rattle.layout.proofs.Choices.{either}
use Rattle.laws.proofs.Formats.{laws}
use Rattle.layout.proofs.Lists.{each_left, each_right, each_append}
use Rattle.laws.proofs.Passes.{raw-code}
use Rattle.laws.proofs.Walking.{Frames}
use Rattle.laws.proofs.Calls.{accepted-reading}
use Rattle.records.specs.Words.{word_bytes, words_bytes, record_words, record_bytes}
use Rattle.records.proofs.Words.{length-words, record-sixteen}
use Rattle.promises.proofs.Entries.{Inside, held}
use Rattle.answers.specs.Records.{WholeRecord, WholeRecords, words_with, RecordsByEdition}
use Rattle.answers.proofs.Readings.{Bytes, Words, each_take, each_part, byte_of, then, reading-words}

-- ---- words in bytes

-- a word that fits four bytes is read back from them
pub word_back : (w : ℕ) (t : List ℕ) → w < 4294967296 → word 0 (word_bytes w ++ t) ≡ w
word_back w t lt =
    let z₀ : w % 256 + w / 256 * 256 ≡ w = omega arith in
    let z₁ : w / 256 % 256 + w / 65536 * 256 ≡ w / 256 = omega arith in
    let z₂ : w / 65536 % 256 + w / 16777216 * 256 ≡ w / 65536 = omega arith in
    let z₃ : w / 16777216 % 256 ≡ w / 16777216 = omega arith in
    omega arith

-- what stands after other bytes is read so many bytes further on
pub word-past : (front : List ℕ) (a : ℕ) (t : List ℕ) → word (length front + a) (front ++ t) ≡ word a t
word-past front a t = omega (arith, get_or-append-add front t a 0, byte 1, byte 2, byte 3)
  where
    byte : (j : ℕ) → get_or (front ++ t) (length front + a + j) 0 ≡ get_or t (a + j) 0
    byte j = let q : length front + a + j ≡ length front + (a + j) = omega arith in rw q (get_or-append-add front t (a + j) 0)

words_back : (ws : List ℕ) (k : ℕ) → Words ws → k < length ws → word (k * 4) (words_bytes ws) ≡ get_or ws k 0
unfolding words_bytes
words_back [] k none lt = absurd (omega arith)
words_back (w ∷ ws) zero (also p ps) lt = word_back w (words_bytes ws) p
words_back (w ∷ ws) (suc k) (also p ps) lt =
    let q : suc k * 4 ≡ 4 + k * 4 = omega arith in
    rw q (word-past (word_bytes w) (k * 4) (words_bytes ws) ∙ words_back ws k ps (omega arith))

-- a word of the bytes before others
word-before : (s t : List ℕ) (a : ℕ) → a + 4 ≤ length s → word a (s ++ t) ≡ word a s
word-before s t a le =
    omega (arith, get_or-append s t 0 a (omega arith), get_or-append s t 0 (a + 1) (omega arith), get_or-append s t 0 (a + 2) (omega arith), get_or-append s t 0 (a + 3) (omega arith))

-- words are read back, whatever follows them
pub words-before : (ws t : List ℕ) (k : ℕ) → Words ws → k < length ws → word (k * 4) (words_bytes ws ++ t) ≡ get_or ws k 0
words-before ws t k fits lt = word-before (words_bytes ws) t (k * 4) (omega (arith, length-words ws)) ∙ words_back ws k fits lt

-- ---- records

noughts : Words (replicate 8 0)
noughts = then 0 z (then 0 z (then 0 z (then 0 z (then 0 z (then 0 z (then 0 z (then 0 z none)))))))
  where
    z : 0 < 4294967296
    z = omega arith

record-whole : (e : ℕ) (x : Entry) → x.code < 4294967296 → x.kind < 4294967296 → Inside limit x → Words (told_reading x.reading) → WholeRecord e x
unfolding record_bytes
record-whole e x c k i r =
    let sixteen = record-sixteen e x in
    let whole = either Words (leb 4 e) (λ _. fits x.size (omega arith)) (λ _. fits 0 (omega arith)) in
    record { fits = whole; sixteen = sixteen; read = λ k lt. words_back (record_words e x) k whole (omega arith) }
  where
    fits : (w : ℕ) → w < 4294967296 → Words (words_with w x)
    fits w lt =
        then x.code c
        (then x.kind k
        (then x.place.0 (omega arith)
        (then x.key.place.0 (omega arith)
        (then x.key.len (omega arith)
        (then x.value.place.0 (omega arith)
        (then x.value.len (omega arith)
        (then w lt (each_take 8 (told_reading x.reading ++ replicate 8 0) (each_append (told_reading x.reading) (replicate 8 0) r noughts)))))))))

-- ---- entries

kind-small : (f : Format) (e c : ℕ) → c < 256 → kind (shape f) e c < 4294967296
unfolding kind
kind-small f e c lt = either (λ n. n < 4294967296) (names (shape f) e c) (λ _. numbered f) (λ _. omega arith)
  where
    numbered : (g : Format) → (shape g).number * 256 + c < 4294967296
    numbered Fboss = unfold fboss in (omega arith)
    numbered Vpd = unfold vpd in (omega arith)
    numbered Tiny = unfold tiny in (omega arith)
    numbered Onie = unfold onie in (omega arith)

entry_whole : (f : Format) (e p : ℕ) (r : Raw) → r.frame.code < 256 → Bytes r.bytes → Inside limit (entry_of (shape f) e p r) → WholeRecord e (entry_of (shape f) e p r)
unfolding entry_of content
entry_whole f e p r c bs i =
    record-whole e (entry_of (shape f) e p r) (omega arith) (kind-small f e r.frame.code c) i
    (either (λ x. Words (told_reading x)) (names (shape f) e r.frame.code)
    (λ _. reading-words f r.frame.code (content r).value (each_part r.frame.val r.frame.vlen r.bytes bs))
    (λ _. plain))
  where
    plain : Words (told_reading Plain)
    plain = unfold told_reading in (then 0 (omega arith) none)

entries-whole : (f : Format) (e : ℕ) (b : Bool) (p : ℕ) (rs : List Raw) → Frames (shape f) (grammar f) b rs → Bytes (flat rs) → Each (Inside limit) (entries_of (shape f) e p rs) →
    Each (WholeRecord e) (entries_of (shape f) e p rs)
unfolding entries_of
entries-whole f e b p [] fs bs none = none
entries-whole f e b p (r ∷ rs) fs bs (also i is) =
    let code = raw-code (laws f) r (flat rs) fs.1 in
    also (entry_whole f e p r (omega (arith, code, byte_of (r.bytes ++ flat rs) 0 bs)) (each_left r.bytes (flat rs) bs) i)
    (entries-whole f e ((shape f).last r.frame.code) (p + r.frame.size) rs fs.2 (each_right r.bytes (flat rs) bs) is)

pub whole-records : WholeRecords
unfolding entries_in
whole-records f e img bs = go (read_image f e img) refl
  where
    go : (x : Read) → read_image f e img ≡ x → Each (WholeRecord e) (entries_by x e)
    go (accepted g start rs) q =
        let h = held f e img g start rs q in
        let m = (accepted-reading f e img g start rs q).made in
        let H = (shape g).header (length (flat rs)) in
        entries-whole g e false start rs h.frames (each_left (flat rs) _ (each_right H _ (rw m.is at bs))) h.inside
    go (refused r) q = none

-- ---- records by edition

pub records-by-edition : RecordsByEdition
unfolding record_bytes
records-by-edition = record { former = λ e x le. rw (lt-leb 4 e (omega arith)); framed = λ e x le. rw (le-leb 4 e le) }
