-- What the exports leave in lent memory.
-- Assumes nothing.
use Prim.Native.Nat.{ℕ, zero, suc, ◌+◌, ◌*◌, ◌/◌, ◌≤◌, ◌<◌}
use mathlib.Core.Path.{◌≡◌, refl, ap, sym, ◌∙◌}
use mathlib.Core.List.{List, [], ◌∷◌, ◌++◌, append_assoc}
use mathlib.Core.Bool.{Bool, true, false}
use native.Mathlib.Omega.{arith}
use lib.ListN.{length, get_or, take, drop, length-append, length-drop, get_or-append}
use lib.Seq.{take_at, drop_at, drop-append-add, get_or-take, length-take-le}
use lib.Dec.{leb}
use borrow.Author.Tests.{leb-true, le-leb, lt-leb}
use Rattle.std.specs.Prelude.{Ok, Err}
use Rattle.layout.specs.declared.Format.{Format}
use Rattle.layout.specs.declared.Entry.{Entry}
use Rattle.layout.specs.declared.Refusal.{Refusal}
use Rattle.layout.specs.Answers.{Lookup}
use Rattle.layout.specs.Bytes.{if, all, part, part_at, refusal}
use Rattle.layout.specs.Editions.{shape, chosen}
use Rattle.layout.specs.Walk.{Raw}
use Rattle.layout.specs.Read.{limit, Read, accepted, refused, read_image}
use Rattle.layout.specs.Calls.{Told, told, told_refusal, told_checked, told_lookup, checked_by, check_image, Listed, fill, listed_by, list_entries, entries_of, entries_by, entries_in, nth, found_by, entry_at, moved, step_from}
use Rattle.layout.specs.Write.{word, fields_in}
use Rattle.records.specs.Packed.{packed}
use Rattle.records.specs.Words.{word_bytes, words_bytes, record_bytes, records_bytes}
use Rattle.records.specs.Exports.{Given, kept, recorded, entry_call, recorded_all, recorded_by, list_call, walk_format, walk_edition, walk_entry, walk_at, stepped_to, step_call}
use Rattle.records.proofs.Words.{length-record, length-records}
use Rattle.promises.specs.Words.{Counts, IsRefused, Item, here, there, Lists, tells_list, tells_write, tells_edit, tells_add, tells_remove}
use Rattle.promises.specs.Numbers.{image_numbers}
use Rattle.promises.specs.Lookups.{given}
use Rattle.answers.specs.Whole.{number_of}
use Rattle.promises.proofs.ReadCalls.{entries-few, entry_in}
use Rattle.promises.proofs.FormatNumbers.{tabled}
use Rattle.promises.proofs.Telling.{counts-accepted}
use Rattle.promises.proofs.Unchanged.{unchanged}
use Rattle.answers.proofs.Whole.{whole-reads}
use Rattle.answers.proofs.Records.{word_back, word-past}
use Rattle.answers.specs.Lent.{RefusedAnswer, Answers, ListLent, Lent}

-- ---- numbers

-- what tells 0 is packed as 0
pub packed-taken : (t : Told) → t.number ≡ 0 → number_of (packed t) ≡ 0
unfolding packed
packed-taken t z = rw z (omega arith)

-- C sees a refusal only where the call tells one
pub is-refused : (t : Told) → RefusedAnswer (packed t) → IsRefused t
is-refused t r z = r (packed-taken t z)

-- entries given are no part of a packed answer
packed-given : (n : ℕ) (x y : List Entry) → packed (told n (part_at 0 0) x) ≡ packed (told n (part_at 0 0) y)
unfolding packed
packed-given n x y = refl

-- ---- one record

module _ (e : ℕ) (x : Lookup) (m : List ℕ) where
  recorded-kept : RefusedAnswer (recorded e x m).answer → (recorded e x m).memory ≡ m
  recorded-kept r = go x r
    where
      room : (y : Entry) (b : Bool) → let g = if {A = Given} b (λ _. record { answer = packed (told_lookup (Ok y)); memory = record_bytes e y ++ drop 64 m }) (λ _. kept (refusal 12 0) m) in
          RefusedAnswer g.answer → g.memory ≡ m
      room y true r = absurd (r (packed-taken (told_lookup (Ok y)) refl))
      room y false r = refl

      go : (x : Lookup) → RefusedAnswer (recorded e x m).answer → (recorded e x m).memory ≡ m
      go (Ok y) r = room y (leb 64 (length m)) r
      go (Err q) r = refl

never-given : {A : Type 0} (r : Refusal) (y : Entry) → told_refusal r ≡ given y → A
never-given r y q = let z : ◌≡◌ {A = ℕ} 0 1 = ap (λ (t : Told). t.count) q in absurd (omega arith)

given-same : (x y : Entry) → told_lookup (Ok x) ≡ given y → x ≡ y
given-same x y q = let z : (x ∷ []) ≡ (y ∷ []) = ap (λ (t : Told). t.given) q in cc

recorded-answers : (e : ℕ) (x : Lookup) (m : List ℕ) → Answers (told_lookup x) m (recorded e x m).answer
recorded-answers e (Ok y) m =
    record { whole = λ le. rw (le-leb 64 (length m) le); refused = λ h. absurd (h refl); short = λ x lt q. rw (lt-leb 64 (length m) lt) }
recorded-answers e (Err r) m = record { whole = λ le. refl; refused = λ h. refl; short = λ x lt q. never-given r x q }

-- the record that an entry or a step leaves
record-stands : (e : ℕ) (x : Lookup) (y : Entry) (m : List ℕ) → 64 ≤ length m → told_lookup x ≡ given y →
    (take 64 (recorded e x m).memory ≡ record_bytes e y) × (drop 64 (recorded e x m).memory ≡ drop 64 m)
record-stands e (Err r) y m le q = never-given r y q
record-stands e (Ok x) y m le q =
    rw (le-leb 64 (length m) le, ← given-same x y q)
    (take_at (record_bytes e x) (drop 64 m) 64 (length-record e x), drop_at (record_bytes e x) (drop 64 m) 64 (length-record e x))

-- ---- the walk's step

-- a step leaves answer and record as the entry call does
pub stepped-recorded : (x : Lookup) (n : ℕ) (w m : List ℕ) → ((stepped_to x n w m).answer ≡ (recorded (walk_edition w) x m).answer) × ((stepped_to x n w m).memory ≡ (recorded (walk_edition w) x m).memory)
stepped-recorded (Err r) n w m = (refl, refl)
stepped-recorded (Ok x) n w m = room (leb 64 (length m)) refl
  where
    room : (b : Bool) → leb 64 (length m) ≡ b →
        ((stepped_to (Ok x) n w m).answer ≡ (recorded (walk_edition w) (Ok x) m).answer) × ((stepped_to (Ok x) n w m).memory ≡ (recorded (walk_edition w) (Ok x) m).memory)
    room true e = (rw e, rw e)
    room false e = (rw e, rw e)

stepped_kept : (x : Lookup) (n : ℕ) (w m : List ℕ) → RefusedAnswer (stepped_to x n w m).answer → (stepped_to x n w m).walk ≡ w
stepped_kept (Err r) n w m q = refl
stepped_kept (Ok x) n w m q = room (leb 64 (length m)) refl
  where
    room : (b : Bool) → leb 64 (length m) ≡ b → (stepped_to (Ok x) n w m).walk ≡ w
    room true e = absurd (q (rw e (packed-taken (told_lookup (Ok x)) refl)))
    room false e = rw e

-- a walk with another entry number, below 2^32, is read back whole
walk-back : (w : List ℕ) (n : ℕ) → 16 ≤ length w → n < 4294967296 →
    (walk_format (walk_at w n) ≡ walk_format w) × (walk_edition (walk_at w n) ≡ walk_edition w) × (walk_entry (walk_at w n) ≡ n) × (drop 16 (walk_at w n) ≡ drop 16 w)
unfolding words_bytes
walk-back w n le lt =
    let front : List ℕ = take 8 w in
    let eight : length front ≡ 8 = length-take-le 8 w (omega arith) in
    let number : List ℕ = word_bytes n ++ (word_bytes (n / 4294967296) ++ []) in
    let rest : List ℕ = drop 16 w in
    let long : 16 ≤ length (walk_at w n) = simp length-append (omega (arith, length-drop 16 w)) in
    let byte : (i : ℕ) → i < 8 → get_or (front ++ (number ++ rest)) i 0 ≡ get_or w i 0
    = (λ i small. get_or-append front (number ++ rest) 0 i (omega arith) ∙ get_or-take 8 w i 0 small) in
    let format : word 0 (walk_at w n) ≡ word 0 w = omega (arith, byte 0 (omega arith), byte 1 (omega arith), byte 2 (omega arith), byte 3 (omega arith)) in
    let edition : word 4 (walk_at w n) ≡ word 4 w = omega (arith, byte 4 (omega arith), byte 5 (omega arith), byte 6 (omega arith), byte 7 (omega arith)) in
    let low : word 8 (walk_at w n) ≡ n = rw eight at (word-past front 0 (number ++ rest)) ∙ word_back n (word_bytes (n / 4294967296) ++ rest) lt in
    let high : word 12 (walk_at w n) ≡ n / 4294967296 = rw eight at (word-past front 4 (number ++ rest)) ∙ word_back (n / 4294967296) rest (omega arith) in
    let after : drop 16 (walk_at w n) ≡ rest = sym (ap (λ (x : List ℕ). drop 16 x) (append_assoc front number rest)) ∙ drop_at (front ++ number) rest 16 (omega (arith, length-append front number)) in
    rw (le-leb 16 (length (walk_at w n)) long, le-leb 16 (length w) le) (format, edition, omega arith, after)

-- ---- the list

-- record j of records, one after another
record-at : (e : ℕ) (xs : List Entry) (t : List ℕ) (j : ℕ) (x : Entry) → Item xs j x → part (j * 64) 64 (records_bytes e xs ++ t) ≡ record_bytes e x
unfolding records_bytes part
record-at e (x ∷ xs) t zero _ here = ap (take 64) (append_assoc (record_bytes e x) (records_bytes e xs) t) ∙ take_at (record_bytes e x) (records_bytes e xs ++ t) 64 (length-record e x)
record-at e (y ∷ xs) t (suc j) x (there i) =
    let q : suc j * 64 ≡ length (record_bytes e y) + j * 64 = omega (arith, length-record e y) in
    rw (q, append_assoc (record_bytes e y) (records_bytes e xs) t, drop-append-add (record_bytes e y) (records_bytes e xs ++ t) (j * 64)) (record-at e xs t j x i)
record-at e [] t j x x3 = elim x3 [ ]

-- what the list call gives with room enough is the list of the image that is read
pub record Listing (f e : ℕ) (img : List ℕ) (entries : List Entry) : Type 0 where
  pub format : Format
  pub start : ℕ
  pub raws : List Raw
  pub read : read_image f e img ≡ accepted format start raws
  pub are : entries ≡ entries_of (shape format) e start raws

same-front : (xs ys s t : List Entry) → length xs ≡ length ys → xs ++ s ≡ ys ++ t → xs ≡ ys
same-front xs ys s t e q = sym (take_at xs s (length ys) e) ∙ ap (take (length ys)) q ∙ take_at ys t (length ys) refl

listed_kept : (x : Read) (e : ℕ) (m : List ℕ) → RefusedAnswer (recorded_by x e m).answer → (recorded_by x e m).memory ≡ m
listed_kept (refused r) e m q = refl
listed_kept (accepted g start rs) e m q = room (leb (length (entries_of (shape g) e start rs)) (length m / 64)) refl
  where
    room : (b : Bool) → leb (length (entries_of (shape g) e start rs)) (length m / 64) ≡ b → (recorded_all e (entries_of (shape g) e start rs) m).memory ≡ m
    room true t = absurd (q (rw t (packed-taken (told (length (entries_of (shape g) e start rs)) (part_at 0 0) (entries_of (shape g) e start rs)) refl)))
    room false t = rw t

-- ---- an entry that is found

nth-few : (xs : List Entry) (k : ℕ) (x : Entry) → nth xs k ≡ Ok x → k < length xs
unfolding nth
nth-few [] k x q = let z : ◌≡◌ {A = ℕ} 0 1 = cc in absurd (omega arith)
nth-few (y ∷ xs) zero x q = omega arith
nth-few (y ∷ xs) (suc k) x q = let h = nth-few xs k x q in omega arith

-- its number is below that of the image's bytes
found-few : (f e : ℕ) (img : List ℕ) (n : ℕ) (x : Entry) → entry_at f e img n ≡ Ok x → n < 65536
unfolding entry_at entries_in
found-few f e img n x q = go (read_image f e img) q (entries-few f e img)
  where
    go : (y : Read) → found_by y e n ≡ Ok x → length (entries_by y e) ≤ limit → n < 65536
    go (accepted g start rs) q few = let h = nth-few (entries_of (shape g) e start rs) n x q in omega arith
    go (refused r) q few = let z : ◌≡◌ {A = ℕ} 0 1 = cc in absurd (omega arith)

-- a walk that is cut short is read as format 0, whose step is refused
walk-whole : (w img : List ℕ) (x : Entry) → entry_at (walk_format w) (walk_edition w) img (walk_entry w) ≡ Ok x → 16 ≤ length w
unfolding entry_at read_image chosen
walk-whole w img x q = go (leb 16 (length w)) refl
  where
    go : (b : Bool) → leb 16 (length w) ≡ b → 16 ≤ length w
    go true t = leb-true 16 (length w) t
    go false t = let c : Err (refusal 16 0) ≡ Ok x = rw t at q in let z : ◌≡◌ {A = ℕ} 0 1 = cc in absurd (omega arith)

no_room : number_of (packed (told_refusal (refusal 12 0))) ≡ 0 → ⊥
unfolding packed
no_room z = omega arith

-- no refusal of an entry is taken for an answer
entry-some : (f e : ℕ) (img : List ℕ) (n : ℕ) (r : Refusal) → entry_at f e img n ≡ Err r → number_of (packed (told_refusal r)) ≡ 0 → ⊥
unfolding all
entry-some f e img n r q z =
    let number : number_of (packed (told_refusal r)) ≡ r.number = rw q at (whole-reads.entry f e img n).number in
    let low = rw q at (entry_in f e img n) in
    omega (arith, number, tabled (13 ∷ image_numbers) r.number refl low.number)

step-onward : (w img m : List ℕ) → (x : Lookup) → entry_at (walk_format w) (walk_edition w) img (walk_entry w) ≡ x → (b : Bool) → leb 64 (length m) ≡ b →
    number_of (stepped_to x (moved (walk_entry w) x) w m).answer ≡ 0 →
    let walk = (stepped_to x (moved (walk_entry w) x) w m).walk in
    (walk_format walk ≡ walk_format w) × (walk_edition walk ≡ walk_edition w) × (walk_entry walk ≡ walk_entry w + 1) × (drop 16 walk ≡ drop 16 w)
step-onward w img m (Ok x) q true t z =
    let few = found-few (walk_format w) (walk_edition w) img (walk_entry w) x q in
    rw t (walk-back w (walk_entry w + 1) (walk-whole w img x q) (omega arith))
step-onward w img m (Ok x) q false t z = absurd (no_room (rw t at z))
step-onward w img m (Err r) q b t z = absurd (entry-some (walk_format w) (walk_edition w) img (walk_entry w) r q z)

pub lists-read : (f e : ℕ) (img : List ℕ) (entries : List Entry) → Lists f e img entries → Listing f e img entries
unfolding list_entries check_image
lists-read f e img entries l = go (read_image f e img) refl (l entries (omega arith))
  where
    filled : (g : Format) (start : ℕ) (rs : List Raw) → read_image f e img ≡ accepted g start rs → let es = entries_of (shape g) e start rs in
        (b : Bool) → let x = if {A = Listed} b (λ _. record { answer = Ok (length es); records = es ++ drop (length es) entries }) (λ _. record { answer = Err (refusal 12 0); records = entries }) in
        Counts (told_checked x.answer) (length entries) × (x.records ≡ entries ++ drop (length entries) entries) → Listing f e img entries
    filled g start rs q true y =
        let es = entries_of (shape g) e start rs in
        let long : length es ≡ length entries = ap (λ (t : Told). t.count) y.0 in
        record { format = g; start = start; raws = rs; read = q; are = sym (same-front es entries (drop (length es) entries) (drop (length entries) entries) long y.1) }
    filled g start rs q false y = let z : ◌≡◌ {A = ℕ} 12 0 = ap (λ (t : Told). t.number) y.0 in absurd (omega arith)

    go : (x : Read) → read_image f e img ≡ x → Counts (told_checked (listed_by x e entries).answer) (length entries) × ((listed_by x e entries).records ≡ entries ++ drop (length entries) entries) →
        Listing f e img entries
    go (accepted g start rs) q y = filled g start rs q (leb (length (entries_of (shape g) e start rs)) (length entries)) y
    go (refused r) q y =
        let c : check_image f e img ≡ Ok (length entries) = counts-accepted f e img (length entries) (rw q y.0) in
        let c' : checked_by (refused r) ≡ Ok (length entries) = rw q at c in
        let z : ◌≡◌ {A = ℕ} 0 1 = cc in
        absurd (omega arith)

pub list-lent : (f e : ℕ) (img m : List ℕ) → ListLent f e img m
unfolding list_call list_entries
list-lent f e img m =
    record {
      answers = answers;
      stands = λ entries l fits j x i.
          rw (memory entries (lists-read f e img entries l) fits) (record-at e entries (drop (length entries * 64) m) j x i);
      beyond = λ entries l fits.
          rw (memory entries (lists-read f e img entries l) fits) (drop_at (records_bytes e entries) (drop (length entries * 64) m) (length entries * 64) (length-records e entries));
    }
  where
    memory : (entries : List Entry) → Listing f e img entries → length entries * 64 ≤ length m → (list_call f e img m).memory ≡ records_bytes e entries ++ drop (length entries * 64) m
    memory entries l fits =
        let es = entries_of (shape l.format) e l.start l.raws in
        let room : length es ≤ length m / 64 = rw (← l.are) (omega arith) in
        rw (l.read, le-leb (length es) (length m / 64) room, l.are)

    answers : (records : List Entry) → length records ≡ length m / 64 → (list_call f e img m).answer ≡ packed (tells_list f e img records)
    answers records long = go (read_image f e img) refl
      where
        go : (x : Read) → read_image f e img ≡ x → (list_call f e img m).answer ≡ packed (tells_list f e img records)
        go (refused r) q = rw q
        go (accepted g start rs) q = rw q (room (leb (length (entries_of (shape g) e start rs)) (length m / 64)) refl)
          where
            room : (b : Bool) → leb (length (entries_of (shape g) e start rs)) (length m / 64) ≡ b →
                (recorded_all e (entries_of (shape g) e start rs) m).answer ≡ packed (told_checked (fill (entries_of (shape g) e start rs) records).answer)
            room true t = rw (long, t) (packed-given (length (entries_of (shape g) e start rs)) (entries_of (shape g) e start rs) [])
            room false t = rw (long, t)

pub lent : Lent
unfolding entry_call list_call step_call step_from
lent =
    record {
      unchanged =
          record {
            entry = λ f e img n m r. recorded-kept e (entry_at f e img n) m r;
            listed = λ f e img m r. listed_kept (read_image f e img) e m r;
            stepped = λ w img m r.
                let x = entry_at (walk_format w) (walk_edition w) img (walk_entry w) in
                let n = moved (walk_entry w) x in
                (stepped_kept x n w m r, (stepped-recorded x n w m).1 ∙ recorded-kept (walk_edition w) x m (rw (stepped-recorded x n w m).0 at r));
            written = λ f e fields values out r. unchanged.written f e (fields_in fields) values out (is-refused (tells_write f e (fields_in fields) values out) r);
            edited = λ f e img n v out r. unchanged.edited f e img n v out (is-refused (tells_edit f e img n v out) r);
            added = λ f e img xs values out r. unchanged.added f e img (fields_in xs) values out (is-refused (tells_add f e img (fields_in xs) values out) r);
            removed = λ f e img n out r. unchanged.removed f e img n out (is-refused (tells_remove f e img n out) r);
          };
      listed = list-lent;
      entry = λ f e img n m. record { answers = recorded-answers e (entry_at f e img n) m; stands = λ x le q. record-stands e (entry_at f e img n) x m le q };
      stepped = λ w img m.
          let x = entry_at (walk_format w) (walk_edition w) img (walk_entry w) in
          let n = moved (walk_entry w) x in
          let s = stepped-recorded x n w m in
          record {
            answers = rw s.0 (recorded-answers (walk_edition w) x m);
            stands = λ y le q. rw s.1 (record-stands (walk_edition w) x y m le q);
            onward = step-onward w img m x refl (leb 64 (length m)) refl;
          };
    }
