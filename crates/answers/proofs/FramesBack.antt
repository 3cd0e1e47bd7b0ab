-- Word 7 as C reads it: 0 in editions 1 to 3, and from edition 4 on the length after which the next record's entry or the end begins.
-- Assumes nothing.
use Prim.Native.Nat.{ℕ, zero, suc, ◌+◌, ◌*◌, ◌≤◌, ◌<◌}
use mathlib.Core.Path.{◌≡◌, ap, sym, ◌∙◌}
use mathlib.Core.List.{List, [], ◌∷◌}
use native.Mathlib.Numerals.{add-one}
use native.Mathlib.Omega.{arith}
use lib.ListN.{length, get_or}
use Rattle.layout.specs.declared.Entry.{Entry}
use Rattle.layout.specs.Calls.{Told}
use Rattle.laws.specs.Contents.{Tiles}
use Rattle.records.specs.Words.{former_words, record_words}
use Rattle.records.specs.Exports.{check_call, list_call}
use Rattle.promises.specs.Words.{Counts, Item, here, there, tells_check}
use Rattle.promises.specs.Listing.{ListOf}
use Rattle.promises.proofs.Listing.{listing}
use Rattle.promises.proofs.Strings.{no_item}
use Rattle.answers.specs.Whole.{count_of}
use Rattle.answers.specs.FromC.{Bytes, record_word, FramesFromC}
use Rattle.answers.proofs.Whole.{whole-reads}
use Rattle.answers.proofs.ReadBack.{item-some, word_kept, word-former, word-framed, record-words}

-- ---- records that tile

tiles-next : (p : ℕ) (xs : List Entry) (q j : ℕ) (x y : Entry) → Tiles p xs q → Item xs j x → Item xs (suc j) y → x.place.0 + x.size ≡ y.place.0
tiles-next p (x ∷ []) q zero _ _ t here (there i) = no_item i
tiles-next p (x ∷ y ∷ xs) q zero _ _ t here (there here) = omega (arith, t.0, t.4.0)
tiles-next p (z ∷ xs) q (suc j) x y t (there i) (there k) = tiles-next (p + z.size) xs q j x y t.4 i k
tiles-next p [] q j x y t x5 _ = elim x5 [ ]

tiles-whole : (p : ℕ) (xs : List Entry) (q j : ℕ) (x : Entry) → Tiles p xs q → Item xs j x → x.place.0 + x.size ≡ x.value.place.0 + x.value.len
tiles-whole p (x ∷ xs) q zero _ t here = omega (arith, t.0, t.3)
tiles-whole p (z ∷ xs) q (suc j) x t (there i) = tiles-whole (p + z.size) xs q j x t.4 i
tiles-whole p [] q j x t x4 = elim x4 [ ]

tiles-last : (p : ℕ) (xs : List Entry) (q j : ℕ) (x : Entry) → Tiles p xs q → Item xs j x → suc j ≡ length xs → x.place.0 + x.size ≡ q
tiles-last p (x ∷ []) q zero _ t here e = omega (arith, t.0, t.4)
tiles-last p (x ∷ y ∷ xs) q zero _ t here e = absurd (omega (arith, e))
tiles-last p (z ∷ xs) q (suc j) x t (there i) e = tiles-last (p + z.size) xs q j x t.4 i (omega (arith, e))
tiles-last p [] q j x t x5 e = elim x5 [ ]

-- ---- as C reads them

-- the number of entries is taken out whole
pub check-counted : (f e : ℕ) (image : List ℕ) (n : ℕ) → Counts (tells_check f e image) n → count_of (check_call f e image) ≡ n
check-counted f e image n c = (whole-reads.checked f e image).count (ap (λ (t : Told). t.number) c) ∙ ap (λ (t : Told). t.count) c

module _ (f e : ℕ) (image : List ℕ) (bs : Bytes image) (n : ℕ) (c : Counts (tells_check f e image) n) (l : ListOf f e image n) where
  many : count_of (check_call f e image) ≡ length l.entries
  many = check-counted f e image n c ∙ sym l.counted

  module _ (m : List ℕ) (fits : count_of (check_call f e image) * 64 ≤ length m) where
    -- word k of record j
    reads : (j : ℕ) (x : Entry) → Item l.entries j x → (k : ℕ) → k < 16 → record_word (list_call f e image m).memory j k ≡ get_or (record_words e x) k 0
    reads = record-words f e image bs l.entries l.listed m (rw many at fits)

    place : (j : ℕ) (x : Entry) → Item l.entries j x → record_word (list_call f e image m).memory j 2 ≡ x.place.0
    place j x i = reads j x i 2 (omega arith) ∙ word_kept e x 2 (λ q. omega (arith, q))

    -- where the frame of record j ends
    ends : 4 ≤ e → (j : ℕ) (x : Entry) → Item l.entries j x →
        record_word (list_call f e image m).memory j 2 + record_word (list_call f e image m).memory j 7 ≡ x.place.0 + x.size
    ends new j x i = rw (place j x i, reads j x i 7 (omega arith), word-framed e x new)

  frames-of : FramesFromC f e image
  frames-of =
      record {
        format = l.format;
        serves = l.serves;
        former = λ old m fits j lt.
            let x = item-some l.entries j (rw many at lt) in
            reads m fits j x.0 x.1 7 (omega arith) ∙ word-former e x.0 old;
        next = λ new m fits j lt.
            let x = item-some l.entries j (omega (arith, many)) in
            let y = item-some l.entries (suc j) (omega (arith, many)) in
            let after : Item l.entries (j + 1) y.0 = rw add-one y.1 in
            ends m fits new j x.0 x.1 ∙ tiles-next l.start l.entries l.end j x.0 y.0 l.tiled x.1 y.1 ∙ sym (place m fits (j + 1) y.0 after);
        whole = λ new m fits j lt.
            let x = item-some l.entries j (rw many at lt) in
            let w : (k : ℕ) → k < 7 → record_word (list_call f e image m).memory j k ≡ get_or (former_words x.0) k 0
            = (λ k low. reads m fits j x.0 x.1 k (omega (arith, low)) ∙ word_kept e x.0 k (λ q. omega (arith, q, low))) in
            ends m fits new j x.0 x.1 ∙ tiles-whole l.start l.entries l.end j x.0 l.tiled x.1 ∙ sym (rw (w 5 (omega arith), w 6 (omega arith)));
        last = λ new m fits j q.
            let x = item-some l.entries j (omega (arith, many)) in
            let s = ends m fits new j x.0 x.1 ∙ tiles-last l.start l.entries l.end j x.0 l.tiled x.1 (omega (arith, many)) in
            rw s l.closed;
      }

pub frames-from-c : (f e : ℕ) (image : List ℕ) → Bytes image → (n : ℕ) → Counts (tells_check f e image) n → FramesFromC f e image
frames-from-c f e image bs n c = frames-of f e image bs n c (listing f e image n c)
