-- Entry, value and walk belong to the list.
-- Assumes nothing.
use Prim.Native.Nat.{ℕ, zero, suc, ◌+◌, ◌-◌, ◌≤◌}
use mathlib.Core.Path.{◌≡◌, refl, ap, sym, ◌∙◌}
use mathlib.Core.List.{List, [], ◌∷◌, ◌++◌, map}
use native.Mathlib.Omega.{arith}
use native.Mathlib.Nat.{zero-add, add-zero, zero-sub, sub-zero, suc-sub-suc}
use lib.ListN.{length, take, replicate}
use lib.Seq.{take-nil}
use borrow.Author.Tests.{lt-leb}
use Rattle.std.specs.Prelude.{Ok, Err}
use Rattle.layout.specs.declared.Entry.{Entry}
use Rattle.layout.specs.declared.Refusal.{Refusal}
use Rattle.layout.specs.Answers.{Lookup, Located}
use Rattle.layout.specs.Bytes.{all, refusal}
use Rattle.layout.specs.Editions.{shape}
use Rattle.layout.specs.Read.{limit, Read, refused, read_image}
use Rattle.layout.specs.Calls.{Told, told_refusal, entries_of, check_image, list_entries, nth, entry_at, value_at, string_at, step_from}
use Rattle.layout.specs.Write.{refuse}
use Rattle.layout.specs.Change.{Change, change_read, change_image}
use Rattle.layout.specs.Edit.{edit}
use Rattle.layout.specs.Add.{addition}
use Rattle.layout.specs.Remove.{removal}
use Rattle.laws.specs.Contents.{said}
use Rattle.laws.proofs.Records.{entries-count}
use Rattle.laws.proofs.Calls.{Found as FoundImage, check-found, change-read}
use Rattle.promises.specs.Words.{Item, here, there}
use Rattle.promises.specs.Lookups.{told_by_steps, number_after, given, OneByOne, AsChecked, StepRule, Twin, Lookups}
use Rattle.promises.specs.Numbers.{image_numbers}
use Rattle.promises.proofs.Accepting.{lists}
use Rattle.promises.proofs.FormatNumbers.{tabled}
use Rattle.promises.proofs.Entries.{LookupIn}
use Rattle.promises.proofs.ReadCalls.{entry_in}
use Rattle.promises.proofs.Telling.{counts-accepted, check-refused}

-- ---- one of a list

-- an item of this number is found, and nothing past the last
nth-item : (xs : List Entry) (i : ℕ) (x : Entry) → Item xs i x → nth xs i ≡ Ok x
unfolding nth
nth-item (y ∷ xs) zero x here = refl
nth-item (y ∷ xs) (suc i) x (there it) = nth-item xs i x it
nth-item [] i x x3 = elim x3 [ ]

nth_past : (xs : List Entry) (i : ℕ) → length xs ≤ i → nth xs i ≡ Err (refusal 13 0)
unfolding nth
nth_past [] i le = refl
nth_past (y ∷ xs) zero le = absurd (omega arith)
nth_past (y ∷ xs) (suc i) le = nth_past xs i (omega arith)

-- ---- walks

module _ (f e : ℕ) (image : List ℕ) where
  -- from entry i on the entries are these
  abbrev From : ℕ → List Entry → Type 0
  From i xs = (j : ℕ) → entry_at f e image (i + j) ≡ nth xs j

  from-here : (i : ℕ) (xs : List Entry) → From i xs → entry_at f e image i ≡ nth xs 0
  from-here i xs h = rw add-zero at (h 0)

  from_next : (i : ℕ) (x : Entry) (xs : List Entry) → From i (x ∷ xs) → From (i + 1) xs
  unfolding nth
  from_next i x xs h j = let q : i + 1 + j ≡ i + suc j = omega arith in rw q (h (suc j))

  -- what k steps from there tell, and the entry number that the walk then has
  walked_from : (k i : ℕ) (xs : List Entry) → From i xs →
      told_by_steps f e image i k ≡ take k (map given xs) ++ replicate (k - length xs) (told_refusal (refusal 13 0))
  unfolding told_by_steps step_from nth
  walked_from zero i xs h = rw (zero-sub (length xs))
  walked_from (suc k) i [] h = rw (from-here i [] h, sub-zero) (ap (λ (ts : List Told). told_refusal (refusal 13 0) ∷ ts) (rw (sub-zero, take-nil) at (walked_from k i [] h)))
  walked_from (suc k) i (x ∷ xs) h =
      rw (from-here i (x ∷ xs) h, suc-sub-suc k (length xs)) (ap (λ (ts : List Told). given x ∷ ts) (walked_from k (i + 1) xs (from_next i x xs h)))

  moved-from : (k i : ℕ) (xs : List Entry) → From i xs → k ≤ length xs → number_after f e image i k ≡ i + k
  unfolding number_after step_from nth
  moved-from zero i xs h le = sym (add-zero i)
  moved-from (suc k) i [] h le = absurd (omega arith)
  moved-from (suc k) i (x ∷ xs) h le =
      let at : i + 1 + k ≡ i + suc k = omega arith in
      rw (from-here i (x ∷ xs) h) (moved-from k (i + 1) xs (from_next i x xs h) (omega arith) ∙ at)

  stayed-from : (k i : ℕ) (xs : List Entry) → From i xs → length xs ≤ k → number_after f e image i k ≡ i + length xs
  unfolding number_after step_from nth
  stayed-from zero i [] h le = sym (add-zero i)
  stayed-from zero i (x ∷ xs) h le = absurd (omega arith)
  stayed-from (suc k) i [] h le = rw (from-here i [] h) (stayed-from k i [] h (omega arith))
  stayed-from (suc k) i (x ∷ xs) h le =
      let at : i + 1 + length xs ≡ i + suc (length xs) = omega arith in
      rw (from-here i (x ∷ xs) h) (stayed-from k (i + 1) xs (from_next i x xs h) (omega arith) ∙ at)

-- ---- an accepted image

-- entry i is one of the image's records
found_all : (f e : ℕ) (image : List ℕ) (n : ℕ) (x : FoundImage f e image n) (i : ℕ) → entry_at f e image i ≡ nth (entries_of (shape x.format) e x.start x.raws) i
unfolding entry_at
found_all f e image n x i = rw x.reading.read

one_by_one : (f e : ℕ) (image : List ℕ) (n : ℕ) → FoundImage f e image n → OneByOne f e image n
unfolding list_entries value_at said
one_by_one f e image n x =
    let g = x.format in
    let xs : List Entry = entries_of (shape g) e x.start x.raws in
    let count : length xs ≡ n = entries-count (shape g) e x.start x.raws ∙ sym x.count in
    let at : (i : ℕ) → entry_at f e image i ≡ nth xs i = found_all f e image n x in
    let item : (i : ℕ) (y : Entry) → Item xs i y → entry_at f e image i ≡ Ok y = λ i y it. at i ∙ nth-item xs i y it in
    let past : (i : ℕ) → n ≤ i → entry_at f e image i ≡ Err (refusal 13 0) = λ i le. at i ∙ nth_past xs i (omega arith) in
    let from : From f e image 0 xs = λ j. rw zero-add (at j) in
    record {
      entries = xs;
      counted = count;
      listed = lists f e image g x.start x.raws x.reading;
      too_few = λ records lt. rw (x.reading.read, lt-leb (length xs) (length records) (omega arith));
      entry = λ i y it. rw (item i y it);
      no_entry = λ i le. rw (past i le);
      value = λ i y it. rw (item i y it);
      value_bytes = λ i y it. rw (item i y it);
      no_value = λ i le. rw (past i le);
      walked = λ k. rw count at (walked_from f e image k 0 xs from);
      moves = λ k le. moved-from f e image k 0 xs from (omega arith) ∙ zero-add k;
      stays = λ k le. stayed-from f e image k 0 xs from (omega arith) ∙ zero-add (length xs) ∙ count;
    }

-- ---- a refused image

-- a change of it is refused alike, where its output is not too long
change-refused : (x : Change) (f e : ℕ) (image : List ℕ) (r : Refusal) → read_image f e image ≡ refused r → (out : List ℕ) → length out ≤ limit → change_image x f e image out ≡ refuse r out
change-refused x f e image r q out le = change-read x f e image out le ∙ ap (λ (y : Read). change_read y x e out) q

as-checked : (f e : ℕ) (image : List ℕ) (r : Refusal) → read_image f e image ≡ refused r → AsChecked f e image
unfolding check_image list_entries entry_at value_at
as-checked f e image r q =
    record {
      listed = λ records. rw q;
      entry = λ n. rw q;
      value = λ n. rw q;
      edited = λ i v out le. rw (q, change-refused (edit i v) f e image r q out le);
      added = λ xs values out le. rw (q, change-refused (addition xs values) f e image r q out le);
      removed = λ i out le. rw (q, change-refused (removal i) f e image r q out le);
    }

-- ---- any image

twin-of : (image : List ℕ) (x : Located) → Twin image x
twin-of image (Ok x) = record { number = refl; place = refl; empty = λ r. absurd (r refl) }
twin-of image (Err r) = record { number = refl; place = refl; empty = λ r. refl }

-- a missing entry is refused by a number of its table, which has no 0
step-rule : (f e n : ℕ) (image : List ℕ) → StepRule f e n image
unfolding step_from all
step-rule f e n image = go (entry_at f e image n) refl (entry_in f e image n)
  where
    go : (x : Lookup) → entry_at f e image n ≡ x → LookupIn x → StepRule f e n image
    go (Ok x) q l = record { answers = refl; onward = λ z. rw q; unmoved = λ r. absurd (r (rw q)) }
    go (Err r) q l =
        let some : 1 ≤ r.number = (tabled (13 ∷ image_numbers) r.number refl l.number).0 in
        record { answers = refl; onward = λ z. let none : r.number ≡ 0 = rw q at z in absurd (omega arith); unmoved = λ r. rw q }

pub lookups : Lookups
lookups =
    record {
      accepted = λ f e image n q. one_by_one f e image n (check-found f e image n (counts-accepted f e image n q));
      refused = λ f e image q. let x = check-refused f e image q in as-checked f e image x.0 x.1;
      stepped = step-rule;
      value = λ f e image n. twin-of image (value_at f e image n);
      string = λ f e image number. twin-of image (string_at f e image number);
    }
