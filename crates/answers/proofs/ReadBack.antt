-- How C reads a list: the words of record j are those of the list's record j, and say what it says.
-- Assumes nothing.
use Prim.Native.Nat.{ℕ, zero, suc, ◌+◌, ◌*◌, ◌/◌, ◌≤◌, ◌<◌}
use mathlib.Core.Path.{◌≡◌, refl, ap, sym, ◌∙◌}
use mathlib.Core.List.{List, [], ◌∷◌, map}
use native.Mathlib.Omega.{arith}
use lib.ListN.{length, get_or, replicate, length-replicate}
use lib.Dec.{leb}
use borrow.Author.Tests.{le-leb, lt-leb}
use Rattle.layout.specs.declared.Entry.{Entry}
use Rattle.layout.specs.declared.Reading.TheVariants.{Plain}
use Rattle.layout.specs.Bytes.{part, place, part_at}
use Rattle.layout.specs.Walk.{Content}
use Rattle.layout.specs.Calls.{Told, entries_in}
use Rattle.layout.specs.Write.{word}
use Rattle.laws.specs.Contents.{said}
use Rattle.layout.specs.Each.{Each, also}
use Rattle.layout.proofs.Choices.{either}
use Rattle.layout.proofs.Lists.{length-map}
use Rattle.laws.proofs.Passes.{part-byte}
use Rattle.records.specs.Packed.{packed}
use Rattle.records.specs.Words.{former_words, framed_words, record_words}
use Rattle.records.specs.Exports.{check_call, list_call}
use Rattle.promises.specs.Words.{Counts, Item, here, there, Lists, Reads, tells_check}
use Rattle.answers.specs.Records.{WholeRecord}
use Rattle.answers.specs.FromC.{Bytes, record_word, record_says, ReadFromC}
use Rattle.answers.proofs.Whole.{whole-reads}
use Rattle.answers.proofs.Records.{whole-records}
use Rattle.answers.proofs.Lent.{packed-taken, lists-read, list-lent}

-- ---- items

pub each_item : {A : Type 0} {P : A → Type 0} {xs : List A} {j : ℕ} {x : A} → Each P xs → Item xs j x → P x
each_item (also p ps) here = p
each_item (also p ps) (there i) = each_item ps i
each_item {A = A} {P = P} {j = j} Rattle.layout.specs.Each.none x6 = elim x6 [ ]

-- an item of a list that a function was carried over
pub map-item : {A B : Type 0} (f : A → B) (xs : List A) (j : ℕ) (y : B) → Item (map f xs) j y → (x : A) × (Item xs j x × (f x ≡ y))
map-item f (x ∷ xs) zero _ here = (x, (here, refl))
map-item f (x ∷ xs) (suc j) y (there i) = let r = map-item f xs j y i in (r.0, (there r.1.0, r.1.1))
map-item {A = A} {B = B} f [] j y x' = elim x' [ ]

pub item-some : {A : Type 0} (xs : List A) (j : ℕ) → j < length xs → (x : A) × Item xs j x
item-some [] j lt = absurd (omega arith)
item-some (x ∷ xs) zero lt = (x, here)
item-some (x ∷ xs) (suc j) lt = let r = item-some xs j (omega arith) in (r.0, there r.1)

-- ---- the words of a record

-- a word of 64 bytes that stand inside others
word-within : (m : List ℕ) (j k : ℕ) → k < 16 → record_word m j k ≡ word (k * 4) (part (j * 64) 64 m)
word-within m j k lt = omega (arith, part-byte m (j * 64) 64 (k * 4) (omega arith), byte 1 (omega arith), byte 2 (omega arith), byte 3 (omega arith))
  where
    byte : (i : ℕ) → i < 4 → get_or (part (j * 64) 64 m) (k * 4 + i) 0 ≡ get_or m (j * 64 + k * 4 + i) 0
    byte i small = let q : j * 64 + (k * 4 + i) ≡ j * 64 + k * 4 + i = omega arith in part-byte m (j * 64) 64 (k * 4 + i) (omega arith) ∙ ap (λ (a : ℕ). get_or m a 0) q

-- every edition gives all words but word 7 alike
framed_kept : (x : Entry) (k : ℕ) → (k ≡ 7 → ⊥) → get_or (framed_words x) k 0 ≡ get_or (former_words x) k 0
framed_kept x zero other = refl
framed_kept x (suc zero) other = refl
framed_kept x (suc (suc zero)) other = refl
framed_kept x (suc (suc (suc zero))) other = refl
framed_kept x (suc (suc (suc (suc zero)))) other = refl
framed_kept x (suc (suc (suc (suc (suc zero))))) other = refl
framed_kept x (suc (suc (suc (suc (suc (suc zero)))))) other = refl
framed_kept x (suc (suc (suc (suc (suc (suc (suc zero))))))) other = absurd (other refl)
framed_kept x (suc (suc (suc (suc (suc (suc (suc (suc k)))))))) other = refl

pub word_kept : (e : ℕ) (x : Entry) (k : ℕ) → (k ≡ 7 → ⊥) → get_or (record_words e x) k 0 ≡ get_or (former_words x) k 0
word_kept e x k other = either (λ ws. get_or ws k 0 ≡ get_or (former_words x) k 0) (leb 4 e) (λ _. framed_kept x k other) (λ _. refl)

-- and word 7 by the edition
pub word-former : (e : ℕ) (x : Entry) → e ≤ 3 → get_or (record_words e x) 7 0 ≡ 0
word-former e x le = rw (lt-leb 4 e (omega arith))

pub word-framed : (e : ℕ) (x : Entry) → 4 ≤ e → get_or (record_words e x) 7 0 ≡ x.size
word-framed e x le = rw (le-leb 4 e le)

-- a record to lend, whatever it holds
pub blank : Entry
blank = record { code = 0; kind = 0; place = place 0; size = 0; key = part_at 0 0; value = part_at 0 0; reading = Plain }

module _ (f e : ℕ) (image : List ℕ) (bs : Bytes image) (entries : List Entry) (l : Lists f e image entries) where
  entries-whole : Each (WholeRecord e) entries
  unfolding entries_in
  entries-whole =
      let r = lists-read f e image entries l in
      let w = rw r.read at (whole-records f e image bs) in
      rw r.are w

  module _ (m : List ℕ) (fits : length entries * 64 ≤ length m) where
    -- word k of record j
    pub record-words : (j : ℕ) (x : Entry) → Item entries j x → (k : ℕ) → k < 16 → record_word (list_call f e image m).memory j k ≡ get_or (record_words e x) k 0
    record-words j x i k lt =
        word-within (list_call f e image m).memory j k lt
        ∙ ap (word (k * 4)) ((list-lent f e image m).stands entries l fits j x i)
        ∙ (each_item entries-whole i).read k lt

    pub record-said : (j : ℕ) (x : Entry) → Item entries j x → record_says image (list_call f e image m).memory j ≡ said image x
    unfolding said
    record-said j x i =
        let w = record-words j x i in
        let word : (k : ℕ) → k < 7 → record_word (list_call f e image m).memory j k ≡ get_or (former_words x) k 0 = (λ k lt. w k (omega arith) ∙ word_kept e x k (λ q. omega (arith, q))) in
        rw (word 0 (omega arith), word 3 (omega arith), word 4 (omega arith), word 5 (omega arith), word 6 (omega arith))

    -- the list answers as the check
    pub list-answers : Counts (tells_check f e image) (length entries) → (list_call f e image m).answer ≡ check_call f e image
    list-answers c =
        let records : List Entry = replicate (length m / 64) blank in
        let long : length records ≡ length m / 64 = length-replicate (length m / 64) blank in
        (list-lent f e image m).answers records long ∙ ap packed ((l records (omega arith)).0 ∙ sym c)

-- what a call reads, C reads
pub reads-back : (f e : ℕ) (image : List ℕ) (cs : List Content) → Bytes image → Reads f e image cs → ReadFromC f e image cs
reads-back f e image cs bs r =
    let n : (tells_check f e image).number ≡ 0 = ap (λ (t : Told). t.number) r.accepted in
    let long : length cs ≡ length r.entries = ap length (sym r.says) ∙ length-map (said image) r.entries in
    record {
      accepted = packed-taken (tells_check f e image) n;
      counted = (whole-reads.checked f e image).count n ∙ ap (λ (t : Told). t.count) r.accepted ∙ sym long;
      listed = λ m fits. list-answers f e image bs r.entries r.listed m (omega arith) r.accepted;
      says = λ m fits j c i.
          let x = map-item (said image) r.entries j c (rw r.says i) in
          record-said f e image bs r.entries r.listed m (omega arith) j x.0 x.1.0 ∙ x.1.1;
    }
