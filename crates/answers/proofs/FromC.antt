-- Demands 2 and 3, the numbers of each call and the layout of fields, as C sees them.
-- Assumes nothing.
use Prim.Native.Nat.{ℕ, zero, suc, ◌+◌, ◌*◌, ◌-◌, ◌/◌, ◌≤◌, ◌<◌}
use mathlib.Core.Path.{◌≡◌, refl, ap, sym, ◌∙◌}
use mathlib.Core.List.{List, [], ◌∷◌, ◌++◌, append_assoc, append-nil, map}
use mathlib.Core.Bool.{Bool, true, false}
use native.Mathlib.Omega.{arith}
use lib.ListN.{length, get_or, take, drop, replicate, length-append, length-replicate}
use lib.Seq.{take_at, drop_at, get_or-take, get_or-append-add}
use lib.Dec.{leb, eqb}
use borrow.Author.Tests.{eqb-true, le-leb}
use Rattle.std.specs.Prelude.{Ok, Err}
use Rattle.layout.specs.declared.Format.{Format}
use Rattle.layout.specs.declared.Entry.{Entry}
use Rattle.layout.specs.declared.Field.{Field}
use Rattle.layout.specs.declared.Part.{Part}
use Rattle.layout.specs.declared.Place.{Place}
use Rattle.layout.specs.declared.Reading.{Reading}
use Rattle.layout.specs.Answers.{Checked, Made, Lookup}
use Rattle.layout.specs.Bytes.{if, between, all, one_of, part, part_at}
use Rattle.layout.specs.Walk.{Content}
use Rattle.layout.specs.Calls.{Told, told_refusal, told_checked, told_lookup, told_reading, check_image, entry_at, moved, step_from}
use Rattle.layout.specs.Write.{word, field_at, items, items_in, fields_in, write_image, told_made}
use Rattle.layout.specs.Add.{may_add, addition, add_field}
use Rattle.records.specs.Packed.{packed}
use Rattle.records.specs.Words.{words_bytes, reading_words, former_words, record_words}
use Rattle.records.specs.Exports.{recorded, entry_call, list_call, walk_format, walk_edition, walk_entry, step_call, check_call, write_call, made}
use Rattle.records.proofs.Words.{length-words}
use Rattle.fields.proofs.Lists.{items-none, items_more}
use Rattle.laws.specs.Contents.{said, replaced, without}
use Rattle.layout.proofs.Lists.{length-map}
use Rattle.layout.specs.Each.{Each, none, also as andAlso}
use Rattle.promises.specs.Words.{Serves, Counts, Item, here, there, tells_check, Changes, edits, adds, removes}
use Rattle.promises.specs.Kinds.{Marked}
use Rattle.promises.specs.RoundTrip.{field_says}
use Rattle.promises.specs.OlderChanges.{Kept, Keeps, Added}
use Rattle.promises.specs.OlderReads.{Alike, AllAlike, also}
use Rattle.promises.specs.Numbers.{Gives, taken, refused, image_numbers, write_numbers, change_numbers}
use Rattle.promises.proofs.FormatNumbers.{tabled}
use Rattle.promises.proofs.Numbers.{made-gives, call-numbers}
use Rattle.promises.proofs.Refusals.{farthest}
use Rattle.promises.proofs.Entries.{CheckedIn}
use Rattle.promises.proofs.ReadCalls.{checked-in}
use Rattle.promises.proofs.WriteCalls.{MadeLow, edited-low, added-low, removed-low, written_low}
use Rattle.promises.proofs.Telling.{one_format, made_some}
use Rattle.promises.proofs.PublishedRules.{published-rules}
use Rattle.promises.proofs.RecordKinds.{kinds}
use Rattle.promises.proofs.RoundTrip.{round_trip}
use Rattle.promises.proofs.OlderReads.{older-reads}
use Rattle.promises.proofs.OlderChanges.{older-edits, older-adds, older-removes}
use Rattle.promises.proofs.AddRule.{add-rule}
use Rattle.answers.specs.Whole.{number_of, count_of}
use Rattle.answers.specs.FromC.{Bytes, OneOf, NumbersFromC, FieldsFromC, WalkFromC, field_words, fields_bytes, record_word, record_says, KindFromC, AcceptedFromC, WrittenFromC, SameRecord, OlderFromC, ChangedFromC, ChangeFromC, AddFromC, FromC}
use Rattle.answers.proofs.Records.{words-before}
use Rattle.answers.proofs.Lent.{packed-taken, list-lent, stepped-recorded}
use Rattle.answers.proofs.Packing.{whole-told}
use Rattle.answers.proofs.Readings.{each_take}
use Rattle.answers.proofs.ReadBack.{blank, each_item, item-some, word_kept, word-former, word-framed, record-words, record-said, reads-back}
use Rattle.answers.proofs.FramesBack.{check-counted, frames-from-c}

-- ---- numbers

-- C takes out the number that is told
pub told-number : (t : Told) → t.number < 32 → number_of (packed t) ≡ t.number
unfolding packed
told-number t lt = go (eqb t.number 0) refl
  where
    go : (b : Bool) → eqb t.number 0 ≡ b → number_of (packed t) ≡ t.number
    go true e = let z = eqb-true t.number 0 e in rw e (omega arith)
    go false e = rw e (omega arith)

pub gives_one : (numbers : List ℕ) (t : Told) → all (between 1 23) numbers ≡ true → Gives numbers t → OneOf numbers (packed t)
unfolding one_of
gives_one numbers t table (taken {n} {x} {es}) = rw (packed-taken t refl)
gives_one numbers t table (refused {n} {p} h) =
    let small = tabled numbers n table h in
    rw (told-number t (omega arith)) (go (eqb n 0))
  where
    go : (b : Bool) → if b (λ _. true) (λ _. one_of numbers n) ≡ true
    go true = refl
    go false = h

-- one more number in a list
one_more : (x : ℕ) (numbers : List ℕ) (answer : ℕ) → OneOf numbers answer → OneOf (x ∷ numbers) answer
unfolding one_of
one_more x numbers answer h = go (eqb (number_of answer) 0) (eqb (number_of answer) x) h
  where
    go : (a b : Bool) → if a (λ _. true) (λ _. one_of numbers (number_of answer)) ≡ true →
        if a (λ _. true) (λ _. if b (λ _. true) (λ _. one_of numbers (number_of answer))) ≡ true
    go true b h = refl
    go false true h = refl
    go false false h = h

-- 12, or what the entry tells
recorded-one : (e : ℕ) (x : Lookup) (m : List ℕ) → OneOf (13 ∷ image_numbers) (packed (told_lookup x)) → OneOf (12 ∷ 13 ∷ image_numbers) (recorded e x m).answer
unfolding one_of packed
recorded-one e (Err r) m h = one_more 12 (13 ∷ image_numbers) (packed (told_refusal r)) h
recorded-one e (Ok x) m h = go (leb 64 (length m)) refl
  where
    go : (b : Bool) → leb 64 (length m) ≡ b → OneOf (12 ∷ 13 ∷ image_numbers) (recorded e (Ok x) m).answer
    go true q = rw q (one_more 12 (13 ∷ image_numbers) (packed (told_lookup (Ok x))) h)
    go false q = rw q

pub numbers-from-c : NumbersFromC
unfolding all entry_call step_call step_from
numbers-from-c =
    record {
      checked = λ f e img. gives_one image_numbers _ refl (call-numbers.checked f e img);
      listed = λ f e img m.
          let records : List Entry = replicate (length m / 64) blank in
          rw ((list-lent f e img m).answers records (length-replicate (length m / 64) blank)) (gives_one (12 ∷ image_numbers) _ refl (call-numbers.listed f e img records));
      entry = λ f e img n m. recorded-one e (entry_at f e img n) m (gives_one (13 ∷ image_numbers) _ refl (call-numbers.entry f e img n));
      value = λ f e img n. gives_one (13 ∷ image_numbers) _ refl (call-numbers.value f e img n);
      string = λ f e img number. gives_one (15 ∷ image_numbers) _ refl (call-numbers.string f e img number);
      stepped = λ w img m.
          let x = entry_at (walk_format w) (walk_edition w) img (walk_entry w) in
          rw (stepped-recorded x (moved (walk_entry w) x) w m).0
          (recorded-one (walk_edition w) x m (gives_one (13 ∷ image_numbers) _ refl (call-numbers.entry (walk_format w) (walk_edition w) img (walk_entry w))));
      written = λ f e xs values out. gives_one write_numbers _ refl (call-numbers.written f e (fields_in xs) values out);
      edited = λ f e img n v out. gives_one change_numbers _ refl (call-numbers.edited f e img n v out);
      added = λ f e img xs values out. gives_one change_numbers _ refl (call-numbers.added f e img (fields_in xs) values out);
      removed = λ f e img n out. gives_one change_numbers _ refl (call-numbers.removed f e img n out);
    }

-- ---- items in lent bytes

-- items that are laid out one after another, each in so many bytes that read back, are read as they are; a last one that is cut short counts as none
module _ {A : Type 0} (P : A → Type 0) (size : ℕ) (read : List ℕ → A) (lay : A → List ℕ) (lays : List A → List ℕ) (nothing : lays [] ≡ [])
    (more : (x : A) (xs : List A) → lays (x ∷ xs) ≡ lay x ++ lays xs) (some : 0 < size) (long : (x : A) → length (lay x) ≡ size)
    (back : (x : A) (t : List ℕ) → P x → read (lay x ++ t) ≡ x) where
  laid : (x : A) (xs : List A) (cut : List ℕ) → lays (x ∷ xs) ++ cut ≡ lay x ++ (lays xs ++ cut)
  laid x xs cut = ap (λ (s : List ℕ). s ++ cut) (more x xs) ∙ append_assoc (lay x) (lays xs) cut

  laid-long : (x : A) (xs : List A) (cut : List ℕ) → length (lays (x ∷ xs) ++ cut) ≡ size + length (lays xs ++ cut)
  laid-long x xs cut = ap length (laid x xs cut) ∙ length-append (lay x) (lays xs ++ cut) ∙ ap (λ (k : ℕ). k + length (lays xs ++ cut)) (long x)

  items_back : (n : ℕ) (xs : List A) (cut : List ℕ) → Each P xs → length cut < size → length (lays xs ++ cut) ≤ n → items size read n (lays xs ++ cut) ≡ xs
  items_back n [] cut none lt le = rw nothing (items-none size read n cut lt)
  items_back zero (x ∷ xs) cut (andAlso p ps) lt le = absurd (omega (arith, laid-long x xs cut))
  items_back (suc n) (x ∷ xs) cut (andAlso p ps) lt le =
      let rest : List ℕ = lays xs ++ cut in
      let q = laid-long x xs cut in
      items_more size read n (lays (x ∷ xs) ++ cut) (omega arith)
      ∙ rw (laid x xs cut, back x rest p, drop_at (lay x) rest size (long x)) (ap (λ (ys : List A). x ∷ ys) (items_back n xs cut ps lt (omega arith)))

  pub items-in-back : (xs : List A) (cut : List ℕ) → Each P xs → length cut < size → items_in size read (lays xs ++ cut) ≡ xs
  items-in-back xs cut ps lt = items_back (length (lays xs ++ cut)) xs cut ps lt (omega arith)

-- the five words of a field are read back
field_back : (x : Field) (t : List ℕ) → Each (λ w. w < 4294967296) (field_words x) → field_at (words_bytes (field_words x) ++ t) ≡ x
field_back x t fits =
    let back : (k : ℕ) → k < 5 → word (k * 4) (words_bytes (field_words x) ++ t) ≡ get_or (field_words x) k 0 = (λ k lt. words-before (field_words x) t k fits (omega arith)) in
    rw (back 0 (omega arith), back 1 (omega arith), back 2 (omega arith), back 3 (omega arith), back 4 (omega arith))

pub fields-from-c : FieldsFromC
unfolding fields_in
fields-from-c =
    items-in-back (λ x. Each (λ w. w < 4294967296) (field_words x)) 20 field_at (λ x. words_bytes (field_words x)) fields_bytes refl (λ x xs. refl) (omega arith)
    (λ x. length-words (field_words x)) field_back

-- the four words of a walk are read back
pub walk-from-c : WalkFromC
walk-from-c f e low high more fits =
    let words : List ℕ = f ∷ e ∷ low ∷ high ∷ [] in
    let back : (k : ℕ) → k < 4 → word (k * 4) (words_bytes words ++ more) ≡ get_or words k 0 = (λ k lt. words-before words more k fits lt) in
    let long : 16 ≤ length (words_bytes words ++ more) = omega (arith, length-append (words_bytes words) more, length-words words) in
    rw (le-leb 16 (length (words_bytes words ++ more)) long) (back 0 (omega arith), back 1 (omega arith), rw (back 2 (omega arith), back 3 (omega arith)))

-- ---- what C sees taken is taken

gives-zero : (numbers : List ℕ) (t : Told) → all (between 1 23) numbers ≡ true → Gives numbers t → number_of (packed t) ≡ 0 → t.number ≡ 0
gives-zero numbers t table taken z = refl
gives-zero numbers t table (refused {n} {p} h) z = let small = tabled numbers n table h in sym (told-number t (omega arith)) ∙ z

module _ (f e : ℕ) (image : List ℕ) (z : number_of (check_call f e image) ≡ 0) where
  check-counts : (n : ℕ) × Counts (tells_check f e image) n
  unfolding all
  check-counts = go (check_image f e image) refl (checked-in f e image) (gives-zero image_numbers (tells_check f e image) refl (call-numbers.checked f e image) z)
    where
      go : (x : Checked) → check_image f e image ≡ x → CheckedIn x → (tells_check f e image).number ≡ 0 → (n : ℕ) × Counts (tells_check f e image) n
      go (Ok n) q l y = (n, ap told_checked q)
      go (Err r) q l y = absurd (omega (arith, rw q at y, tabled image_numbers r.number refl l.number))

-- the length of an image that was made is taken out whole
made-counts : (numbers : List ℕ) (most : ℕ) (x : Made) (n : ℕ) → x ≡ Ok n → MadeLow numbers most x → count_of (packed (told_made x)) ≡ n
made-counts numbers most x n q l =
    let l' : MadeLow numbers most (Ok n) = rw q at l in
    rw q ((whole-told n (part_at 0 0) [] (omega arith) (omega arith)).count refl)

pub made-taken : (numbers : List ℕ) (most : ℕ) → all (between 1 23) numbers ≡ true → (x : Made) → MadeLow numbers most x → number_of (packed (told_made x)) ≡ 0 →
    Counts (told_made x) (count_of (packed (told_made x)))
made-taken numbers most table x low z =
    let w = made_some numbers most table x low (gives-zero numbers (told_made x) table (made-gives numbers most x low) z) in
    rw (made-counts numbers most x w.0 w.1 low) (ap told_made w.1)

-- ---- demand 2

none-at : (n k : ℕ) → get_or {A = ℕ} (replicate n 0) k 0 ≡ 0
none-at zero k = refl
none-at (suc n) zero = refl
none-at (suc n) (suc k) = none-at n k

-- the words of a record's reading
reading-word : (e : ℕ) (x : Entry) (k : ℕ) → k < 8 → get_or (record_words e x) (8 + k) 0 ≡ get_or (told_reading x.reading ++ replicate 8 0) k 0
reading-word e x k lt =
    let front : List ℕ = x.code ∷ x.kind ∷ x.place.0 ∷ x.key.place.0 ∷ x.key.len ∷ x.value.place.0 ∷ x.value.len ∷ 0 ∷ [] in
    word_kept e x (8 + k) (λ q. omega (arith, q)) ∙ get_or-append-add front (reading_words x.reading) k 0 ∙ get_or-take 8 (told_reading x.reading ++ replicate 8 0) k 0 lt

module _ (f e : ℕ) (format : Format) (image records : List ℕ) (j : ℕ) (x : Entry) (words : (k : ℕ) → k < 16 → record_word records j k ≡ get_or (record_words e x) k 0)
    (says : record_says image records j ≡ said image x) (m : Marked f e format image x) where
  kept : (k : ℕ) → k < 7 → record_word records j k ≡ get_or (former_words x) k 0
  kept k lt = words k (omega arith) ∙ word_kept e x k (λ q. omega (arith, q))

  code : record_word records j 0 ≡ x.code
  code = kept 0 (omega arith)

  value : part (record_word records j 5) (record_word records j 6) image ≡ (said image x).value
  value = ap (λ (c : Content). c.value) says

  carried : (k : ℕ) → k < 8 → record_word records j (8 + k) ≡ get_or (told_reading x.reading ++ replicate 8 0) k 0
  carried k lt = words (8 + k) (omega arith) ∙ reading-word e x k lt

  kind-from-c : KindFromC f e format image records j
  unfolding told_reading
  kind-from-c =
      record {
        kind = λ y. kept 1 (omega arith) ∙ (m.named (rw code at y)).0 ∙ ap (λ (c : ℕ). f * 256 + c) (sym code);
        reading = λ y. (x.reading, rw (code, value) (m.named (rw code at y)).1, carried);
        kindless = λ y. kept 1 (omega arith) ∙ (m.unnamed (rw code at y)).0;
        unread = λ y k lt. carried k lt ∙ ap (λ (r : Reading). get_or (told_reading r ++ replicate 8 0) k 0) (m.unnamed (rw code at y)).1 ∙ none-at 9 k;
      }

module _ (f e : ℕ) (image : List ℕ) (bs : Bytes image) (n : ℕ) (c : Counts (tells_check f e image) n) where
  accepted-from-c : AcceptedFromC f e image
  accepted-from-c =
      let g = published-rules.accepted_is f e image n c in
      let k = kinds f e image n c in
      let same : k.format ≡ g.format = one_format k.serves.number g.serves.number in
      let long : length g.contents ≡ n =
      ap length (sym g.reads.says) ∙ length-map (said image) g.reads.entries ∙ ap (λ (t : Told). t.count) (sym g.reads.accepted ∙ c) in
      record {
        format = g.format;
        serves = g.serves;
        contents = g.contents;
        published = g.published;
        read = reads-back f e image g.contents bs g.reads;
        kinds = λ m fits j lt.
            let room : length k.entries * 64 ≤ length m = omega (arith, k.counted) in
            let i = item-some k.entries j (omega (arith, k.counted)) in
            rw (← same)
            (kind-from-c f e k.format image (list_call f e image m).memory j i.0 (record-words f e image bs k.entries k.listed m room j i.0 i.1)
            (record-said f e image bs k.entries k.listed m room j i.0 i.1) (each_item k.marked i.1));
        frames = frames-from-c f e image bs n c;
      }

written-from-c : WrittenFromC
unfolding all
written-from-c f e xs values out z bs =
    let n = count_of (write_call f e xs values out).answer in
    let output : List ℕ = (write_call f e xs values out).memory in
    let r = round_trip f e (fields_in xs) values out n (made-taken write_numbers (length (fields_in xs)) refl (write_image f e (fields_in xs) values out).answer (written_low f e (fields_in xs) values out) z) in
    let cs : List Content = map (field_says f values) (fields_in xs) in
    (reads-back f e output cs bs r.0, reads-back f e (take n output) cs (each_take n output bs) r.1)

-- ---- demand 3

alike-item : {g : Format} {o : ℕ} {image : List ℕ} {xs ys : List Entry} {j : ℕ} {x : Entry} → AllAlike g o image xs ys → Item xs j x → (y : Entry) × Item ys j y × Alike g o image x y
alike-item (also {y = y} a more) here = (y, here, a)
alike-item (also a more) (there i) = let r = alike-item more i in (r.0, there r.1, r.2)
alike-item {g = g} {o = o} {image = image} {j = j} Rattle.promises.specs.OlderReads.none x8 = elim x8 [ ]

module _ (g : Format) (o : ℕ) (image older newer : List ℕ) (j : ℕ) (x y : Entry) (a : Alike g o image x y)
    (old : (k : ℕ) → k < 16 → record_word older j k ≡ get_or (record_words o x) k 0) (n : ℕ) (le : o ≤ n)
    (new : (k : ℕ) → k < 16 → record_word newer j k ≡ get_or (record_words n y) k 0) where
  same_code : x.code ≡ y.code
  unfolding said
  same_code = ap (λ (c : Content). c.code) a.says

  -- all words but word 7
  old-word : (k : ℕ) → k < 16 → (k ≡ 7 → ⊥) → record_word older j k ≡ get_or (former_words x) k 0
  old-word k lt other = old k lt ∙ word_kept o x k other

  new_word : (k : ℕ) → k < 16 → (k ≡ 7 → ⊥) → record_word newer j k ≡ get_or (former_words y) k 0
  new_word k lt other = new k lt ∙ word_kept n y k other

  same-places : (k : ℕ) → k < 7 → (k ≡ 1 → ⊥) → get_or (former_words x) k 0 ≡ get_or (former_words y) k 0
  same-places zero lt other = same_code
  same-places (suc zero) lt other = absurd (other refl)
  same-places (suc (suc zero)) lt other = ap (λ (p : Place). p.0) a.place
  same-places (suc (suc (suc zero))) lt other = ap (λ (p : Part). p.place.0) a.key
  same-places (suc (suc (suc (suc zero)))) lt other = ap (λ (p : Part). p.len) a.key
  same-places (suc (suc (suc (suc (suc zero))))) lt other = ap (λ (p : Part). p.place.0) a.value
  same-places (suc (suc (suc (suc (suc (suc zero)))))) lt other = ap (λ (p : Part). p.len) a.value
  same-places (suc (suc (suc (suc (suc (suc (suc k))))))) lt other = absurd (omega arith)

  same-record : SameRecord g o older newer j
  unfolding told_reading
  same-record =
      let code : record_word older j 0 ≡ x.code = old-word 0 (omega arith) (λ q. omega (arith, q)) in
      record {
        placed = λ k lt other. old-word k (omega arith) (λ q. omega (arith, q)) ∙ same-places k lt other ∙ sym (new_word k (omega arith) (λ q. omega (arith, q)));
        former = λ low. old 7 (omega arith) ∙ word-former o x low;
        framed = λ four. old 7 (omega arith) ∙ word-framed o x four ∙ a.size ∙ sym (new 7 (omega arith) ∙ word-framed n y (omega (arith, four, le)));
        named = λ s k lt other.
            let q = a.kept (rw code at s) in
            let c = same_code in
            let p = a.place in
            let u = a.key in
            let v = a.value in
            let d = q.0 in
            let r = q.1 in
            let words : former_words x ≡ former_words y = cc in
            old-word k lt other ∙ ap (λ (l : List ℕ). get_or l k 0) words ∙ sym (new_word k lt other);
        kindless = λ s. old-word 1 (omega arith) (λ q. omega (arith, q)) ∙ (a.plain (rw code at s)).0;
        unread = λ s k ge lt.
            let i : 8 + (k - 8) ≡ k = omega arith in
            old k lt ∙ ap (λ (b : ℕ). get_or (record_words o x) b 0) (sym i) ∙ reading-word o x (k - 8) (omega arith)
            ∙ ap (λ (r : Reading). get_or (told_reading r ++ replicate 8 0) (k - 8) 0) (a.plain (rw code at s)).1 ∙ none-at 9 (k - 8);
      }

older-from-c : (f o n : ℕ) (g : Format) (image : List ℕ) (bs : Bytes image) (count : ℕ) → Serves f o g → o ≤ n → Counts (tells_check f n image) count → OlderFromC f o n image
older-from-c f o n g image bs count serves le c =
    let r = older-reads f o n g image count serves le c in
    let counted = check-counted f n image count c in
    record {
      format = r.format;
      serves = r.serves;
      accepted = ap packed (r.accepted ∙ sym c);
      alike = λ m fits j lt.
          let i = item-some r.older j (omega (arith, counted, r.counted.0)) in
          let y = alike-item r.alike i.1 in
          same-record r.format o image (list_call f o image m).memory (list_call f n image m).memory j i.0 y.0 y.2
          (record-words f o image bs r.older r.listed.0 m (omega (arith, counted, r.counted.0)) j i.0 i.1) n le
          (record-words f n image bs r.newer r.listed.1 m (omega (arith, counted, r.counted.1)) j y.0 y.1);
    }

-- ---- changes

-- what C sees of a change that a newer edition reads
kept-from-c : {f n : ℕ} {image : List ℕ} {Makes : List Content → List Content → Type 0} {output : List ℕ} {m : ℕ} → Bytes image → Bytes output →
    Kept f n image Makes output m → ChangedFromC f n image Makes output m
kept-from-c {f = f} {n = n} {image = image} {output = output} {m = m} bs outBytes k =
    record {
      former = k.former;
      latter = k.latter;
      makes = k.makes;
      before = reads-back f n image k.former bs k.before;
      whole = reads-back f n output k.latter outBytes k.whole;
      front = reads-back f n (take m output) k.latter (each_take m output outBytes) k.front;
      frames = (
        frames-from-c f n output outBytes (length k.whole.entries) k.whole.accepted,
        frames-from-c f n (take m output) (each_take m output outBytes) (length k.front.entries) k.front.accepted,
      );
    }

-- of any call whose answers are of the table
change-from-c : (call : Changes) (makes : ℕ → List Content → List Content → Type 0) → ((f e : ℕ) (image out : List ℕ) → MadeLow change_numbers farthest (call f e image out).answer) →
    Keeps call makes → ChangeFromC (λ f e image out. made (call f e image out)) makes
unfolding all
change-from-c call makes low keeps f o n image out bs le z y outBytes =
    let c = check-counts f n image z in
    let answer = (call f o image out).answer in
    kept-from-c bs outBytes (keeps f o n image c.0 out (count_of (packed (told_made answer))) le c.1 (made-taken change_numbers farthest refl answer (low f o image out) y))

-- the first field in lent bytes, and what is made of the others
first_field : (s : List ℕ) → 20 ≤ length s → (rest : List Field) × (fields_in s ≡ field_at s ∷ rest)
unfolding fields_in
first_field s le =
    let long : length s ≡ suc (length s - 1) = omega arith in
    (items 20 field_at (length s - 1) (drop 20 s), ap (λ (n : ℕ). items 20 field_at n s) long ∙ items_more 20 field_at (length s - 1) s le)

-- it goes by the first 20 bytes
field-front : (field more : List ℕ) → length field ≡ 20 → field_at (field ++ more) ≡ field_at field
field-front field more long =
    let byte : (k : ℕ) → k < 20 → get_or (field ++ more) k 0 ≡ get_or field k 0
    = λ k lt. sym (get_or-take 20 (field ++ more) k 0 lt) ∙ ap (λ (s : List ℕ). get_or s k 0) (take_at field more 20 long) in
    let same : (k : ℕ) → k + 4 ≤ 20 → word k (field ++ more) ≡ word k field
    = λ k le. rw (byte k (omega arith), byte (k + 1) (omega arith), byte (k + 2) (omega arith), byte (k + 3) (omega arith)) in
    rw (same 0 (omega arith), same 4 (omega arith), same 8 (omega arith), same 12 (omega arith), same 16 (omega arith))

-- and no other field is looked at
first-only : (f e : ℕ) (image : List ℕ) (x : Field) (xs ys : List Field) (values out : List ℕ) → add_field f e image (x ∷ xs) values out ≡ add_field f e image (x ∷ ys) values out
unfolding addition may_add
first-only f e image x xs ys values out = refl

add-from-c : AddFromC
unfolding fields_in
add-from-c =
    record {
      changed = λ x values fits.
          let bytes : List ℕ = words_bytes (field_words x) in
          let first = first_field bytes (omega (arith, length-words (field_words x))) in
          let is : fields_in bytes ≡ x ∷ first.0 = first.1 ∙ ap (λ (y : Field). y ∷ first.0) (rw (append-nil bytes) at (field_back x [] fits)) in
          rw is (change-from-c (adds (x ∷ first.0) values) (λ f. Added f (field_says f values x)) (λ f e image out. added-low f e image (x ∷ first.0) values out) (older-adds x first.0 values));
      unread = λ field more values long f e image out.
          let whole = first_field (field ++ more) (omega (arith, length-append field more)) in
          let alone = first_field field (omega arith) in
          rw (whole.1, alone.1, field-front field more long) (ap made (first-only f e image (field_at field) whole.0 alone.0 values out));
      short = λ f e image field values out lt le z.
          let c = check-counts f e image z in
          rw (items-none 20 field_at (length field) field lt) (ap packed ((add-rule.adds f e image c.0 c.1).no_field values out le));
    }

pub from-c : FromC
from-c =
    record {
      numbers = numbers-from-c;
      fields = fields-from-c;
      walk = walk-from-c;
      accepted = λ f e image bs z. let c = check-counts f e image z in accepted-from-c f e image bs c.0 c.1;
      written = written-from-c;
      older = λ f o n g image bs serves le z. let c = check-counts f n image z in older-from-c f o n g image bs c.0 serves le c.1;
      edited = λ i v. change-from-c (edits i v) (λ f former latter. latter ≡ replaced former i v) (λ f e image out. edited-low f e image i v out) (older-edits i v);
      added = add-from-c;
      removed = λ i.
          change-from-c (removes i) (λ f former latter. (i < length former) × (latter ≡ without former i)) (λ f e image out. removed-low f e image i out) (older-removes i);
    }
