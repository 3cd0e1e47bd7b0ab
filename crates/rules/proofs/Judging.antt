-- The writer's rules, as the loop over the fields goes by them.
-- Assumes nothing.
use Prim.Native.Nat.{ℕ, zero, suc, ◌+◌, ◌≤◌, ◌<◌}
use mathlib.Core.Path.{◌≡◌, refl, ap, sym, ◌∙◌}
use mathlib.Core.List.{List, [], ◌∷◌, ◌++◌, append-nil}
use mathlib.Core.Bool.{Bool, true, false}
use native.Mathlib.Omega.{arith}
use native.Mathlib.Numerals.{add-one}
use lib.ListN.{length, get_or, set, take, drop, replicate, length-append, drop_of_length-le}
use lib.Seq.{take_all, take-suc, drop-cons}
use Rattle.std.specs.Prelude.{Some, None, Ok, Err}
use Rattle.std.proofs.lemmas.Option.{none-some}
use Rattle.layout.specs.Answers.{fault_told}
use Rattle.layout.specs.declared.Field.{Field}
use Rattle.layout.specs.declared.Format.{Format}
use Rattle.layout.specs.Bytes.{if, refusal}
use Rattle.layout.specs.Shape.{Shape, Label, fine}
use Rattle.layout.specs.Editions.{shape, names}
use Rattle.layout.specs.Walk.{Content, label_of}
use Rattle.layout.specs.Read.{or_else, complete}
use Rattle.layout.specs.Write.{field_at, field_key, field_content, field_fault, judge_fields, contents_of, content_codes, entry_bytes, entries_bytes}
use Rattle.laws.specs.Marked.{all_marked}
use Rattle.layout.proofs.Lists.{joined-append}
use Rattle.laws.proofs.Marks.{Marks, none-marked, one-marked, marked-complete}
use Rattle.laws.proofs.Names.{named-byte, required-bytes}
use Rattle.laws.proofs.Seen.{label_codes}
use Rattle.keys.specs.Filter.{may_repeat, with_key}
use Rattle.keys.proofs.Seen.{key_seen, Knows, none-known, one_known, unknown-unseen}
use Rattle.output.specs.Lengths.{capped}
use Rattle.output.proofs.Lengths.{capped-min}
use Rattle.rules.specs.Fields.{field_labels, soundness, judged_fields}

-- ---- the fault of one field

-- a field without a fault has a code that the edition names
fault-names : (S : Shape) (e : ℕ) (values : List ℕ) (shut : Bool) (seen : List Label) (x : Field) → field_fault S e values shut seen x ≡ 0 → names S e x.code ≡ true
unfolding field_fault
fault-names S e values shut seen x z = go (names S e x.code) refl
  where
    go : (t : Bool) → names S e x.code ≡ t → t ≡ true
    go true n = refl
    go false n = let h : 14 ≡ 0 = rw n at z in absurd (omega (arith, h))

-- no fault was found: its number is 0
none-found : (n : ℕ) → None ≡ fault_told n → n ≡ 0
none-found zero p = refl
none-found (suc n) p = absurd (none-some (suc n) p)

-- ---- lengths

-- a sum of lengths that are cut off is the sum, cut off
capped-sum : (a b : ℕ) → capped (capped a + capped b) ≡ capped (a + b)
capped-sum a b = omega (arith, capped-min a, capped-min b, capped-min (capped a + capped b), capped-min (a + b))

-- the length of an entry, of the lengths of what opens it and of its value, each cut off
pub entry_length : (S : Shape) (c : Content) (m n r : ℕ) → m ≡ capped (length (S.opening c.code c.key)) →
    n ≡ capped (length (S.lens c.code (length c.value)) + length c.value) → r ≡ capped (m + n) → r ≡ capped (length (entry_bytes S c))
unfolding entry_bytes
entry_length S c m n r mq nq rq =
    let a = S.opening c.code c.key in
    let b = S.lens c.code (length c.value) in
    let sum : length (a ++ (b ++ c.value)) ≡ length a + (length b + length c.value) = length-append a (b ++ c.value) ∙ ap (λ (k : ℕ). length a + k) (length-append b c.value) in
    rw sum (rq ∙ rw (mq, nq) (capped-sum (length a) (length b + length c.value)))

-- ---- one field more

labels-snoc : (S : Shape) (values : List ℕ) (xs : List Field) (x : Field) →
    field_labels S values (xs ++ (x ∷ [])) ≡ field_labels S values xs ++ (label_of (field_content S values x) ∷ [])
labels-snoc S values xs x = joined-append (field_labels S values) (λ y. label_of (field_content S values y) ∷ []) refl (λ y ys. refl) xs (x ∷ [])

codes-snoc : (bs : List Label) (b : Label) → label_codes (bs ++ (b ∷ [])) ≡ label_codes bs ++ (b.code ∷ [])
codes-snoc bs b = joined-append label_codes (λ a. a.code ∷ []) refl (λ a later. refl) bs (b ∷ [])

label-codes : (S : Shape) (values : List ℕ) (xs : List Field) → label_codes (field_labels S values xs) ≡ content_codes (contents_of S values xs)
label-codes S values [] = refl
label-codes S values (x ∷ xs) = ap (λ (l : List ℕ). x.code ∷ l) (label-codes S values xs)

-- the length of the entries that fields make
abbrev made : Shape → List ℕ → List Field → ℕ
made S values xs = length (entries_bytes S (contents_of S values xs))

made-snoc : (S : Shape) (values : List ℕ) (xs : List Field) (x : Field) → made S values (xs ++ (x ∷ [])) ≡ made S values xs + length (entry_bytes S (field_content S values x))
unfolding entries_bytes
made-snoc S values xs x =
    let before = entries_bytes S (contents_of S values xs) in
    let one = entry_bytes S (field_content S values x) in
    ap length (joined-append (λ ys. entries_bytes S (contents_of S values ys)) (λ y. entry_bytes S (field_content S values y)) refl (λ y ys. refl) xs (x ∷ []))
    ∙ ap (λ (l : List ℕ). length (before ++ l)) (append-nil one) ∙ length-append before one

-- ---- the loop

-- the loop stands at field i: the judgement of all fields is that of those to do, after those passed; the codes passed are marked, the filter knows their keys, and what they make is counted
pub record Judging (f : Format) (e : ℕ) (xs : List Field) (values : List ℕ) (i : ℕ) (shut : Bool) (marks words : List ℕ) (total : ℕ) : Type 0 where
  pub bound : i ≤ length xs
  pub is_marked : Marks (label_codes (field_labels (shape f) values (take i xs))) marks
  pub is_known : Knows (field_labels (shape f) values (take i xs)) words
  pub left : judge_fields (shape f) e values false [] xs 0 ≡ judge_fields (shape f) e values shut (field_labels (shape f) values (take i xs)) (drop i xs) i
  pub counted : total ≡ capped (made (shape f) values (take i xs))

pub judging-first : (f : Format) (e : ℕ) (xs : List Field) (values words : List ℕ) → Judging f e xs values 0 false (replicate 256 0) words 0
unfolding entries_bytes
judging-first f e xs values words = record { bound = omega arith; is_marked = none-marked; is_known = none-known words; left = refl; counted = refl }

sound-end : (b : Bool) (n : ℕ) → soundness fine b n ≡ if b (λ _. Ok (capped n)) (λ _. Err (refusal 11 0))
sound-end true n = refl
sound-end false n = refl

module _ {f : Format} {e : ℕ} {xs : List Field} {values : List ℕ} {i : ℕ} {shut : Bool} {marks words : List ℕ} {total : ℕ} (w : Judging f e xs values i shut marks words total) where
  abbrev seen : List Label
  seen = field_labels (shape f) values (take i xs)

  -- a key that the filter does not know was not seen
  pub key-unseen : (x : Field) {known : Bool} → known ≡ may_repeat words x.code (field_key (shape f).keyed x values) → known ≡ false → key_seen seen (field_key (shape f).keyed x values) ≡ false
  key-unseen x q n = unknown-unseen seen words x.code (field_key (shape f).keyed x values) w.is_known (sym q ∙ n)

  module _ (x : Field) (here : x ≡ get_or xs i (field_at [])) (lt : i < length xs) where
    past : take (i + 1) xs ≡ take i xs ++ (x ∷ [])
    past = rw (add-one i, here) (take-suc xs i (field_at []) lt)

    todo : drop i xs ≡ x ∷ drop (i + 1) xs
    todo = rw (add-one i, here) (drop-cons xs i (field_at []) lt)

    -- the fields that are left, one apart
    judged-one : judge_fields (shape f) e values false [] xs 0 ≡
        or_else (field_fault (shape f) e values shut seen x) i
        (λ _. judge_fields (shape f) e values ((shape f).last x.code) (seen ++ (label_of (field_content (shape f) values x) ∷ [])) (drop (i + 1) xs) (i + 1))
    unfolding judge_fields
    judged-one = w.left ∙ ap (λ (l : List Field). judge_fields (shape f) e values shut seen l i) todo

    -- a fault ends the pass
    pub judged-fault : {k : ℕ} → Some k ≡ fault_told (field_fault (shape f) e values shut seen x) → Err (refusal k i) ≡ judged_fields f e xs values
    unfolding judged_fields
    judged-fault {k} q = go (field_fault (shape f) e values shut seen x) refl q
      where
        go : (n : ℕ) → field_fault (shape f) e values shut seen x ≡ n → Some k ≡ fault_told n → Err (refusal k i) ≡ judged_fields f e xs values
        go zero h p = absurd (none-some k (sym p))
        go (suc n) h p = let same : k ≡ suc n = cc in rw (judged-one, h, same)

    faultless : None ≡ fault_told (field_fault (shape f) e values shut seen x) → field_fault (shape f) e values shut seen x ≡ 0
    faultless = none-found (field_fault (shape f) e values shut seen x)

    -- a field without a fault has a code that is a byte
    pub fault-byte : None ≡ fault_told (field_fault (shape f) e values shut seen x) → x.code < 256
    fault-byte q = named-byte f e x.code (fault-names (shape f) e values shut seen x (faultless q))

    -- no fault, and the pass goes on
    pub judging-on : None ≡ fault_told (field_fault (shape f) e values shut seen x) → {n : ℕ} → n ≡ capped (length (entry_bytes (shape f) (field_content (shape f) values x))) →
        {m : ℕ} → m ≡ capped (total + n) → Judging f e xs values (i + 1) ((shape f).last x.code) (set marks x.code 1) (with_key words x.code (field_key (shape f).keyed x values)) m
    judging-on q nq mq =
        let labels : field_labels (shape f) values (take (i + 1) xs) ≡ seen ++ (label_of (field_content (shape f) values x) ∷ [])
        = ap (field_labels (shape f) values) past ∙ labels-snoc (shape f) values (take i xs) x in
        let codes : label_codes (field_labels (shape f) values (take (i + 1) xs)) ≡ label_codes seen ++ (x.code ∷ []) = ap label_codes labels ∙ codes-snoc seen (label_of (field_content (shape f) values x)) in
        let a = made (shape f) values (take i xs) in
        let b = length (entry_bytes (shape f) (field_content (shape f) values x)) in
        let sum : made (shape f) values (take (i + 1) xs) ≡ a + b = ap (made (shape f) values) past ∙ made-snoc (shape f) values (take i xs) x in
        record {
          bound = omega arith;
          is_marked = rw codes (one-marked (label_codes seen) marks x.code (fault-byte q) w.is_marked);
          is_known = rw labels (one_known seen words (label_of (field_content (shape f) values x)) w.is_known);
          left = judged-one ∙ rw (faultless q) (ap (λ (l : List Label). judge_fields (shape f) e values ((shape f).last x.code) l (drop (i + 1) xs) (i + 1)) (sym labels));
          counted = rw sum (mq ∙ rw (w.counted, nq) (capped-sum a b));
        }

  -- no field is left: the marks tell whether the fields are complete
  pub judged-end : length xs ≤ i → {b : Bool} → b ≡ all_marked (shape f).required marks → judged_fields f e xs values ≡ if b (λ _. Ok total) (λ _. Err (refusal 11 0))
  unfolding judged_fields judge_fields
  judged-end le {b} q =
      let all : take i xs ≡ xs = take_all i xs le in
      let none : judge_fields (shape f) e values false [] xs 0 ≡ fine = w.left ∙ ap (λ (l : List Field). judge_fields (shape f) e values shut seen l i) (drop_of_length-le xs le) in
      let codes : label_codes seen ≡ content_codes (contents_of (shape f) values xs) = ap (λ (l : List Field). label_codes (field_labels (shape f) values l)) all ∙ label-codes (shape f) values xs in
      let whole : b ≡ complete (shape f).required (content_codes (contents_of (shape f) values xs))
      = q ∙ marked-complete (shape f).required (label_codes seen) marks (required-bytes f) w.is_marked ∙ ap (complete (shape f).required) codes in
      let cut : total ≡ capped (made (shape f) values xs) = w.counted ∙ ap (λ (l : List Field). capped (made (shape f) values l)) all in
      rw (none, ← whole, cut) (sound-end b (made (shape f) values xs))
