-- What the calls that give records come to, one equation for each way that they end.
-- Assumes nothing.
use Prim.Native.Nat.{ℕ, ◌+◌, ◌*◌, ◌/◌, ◌≤◌, ◌<◌}
use mathlib.Core.Path.{◌≡◌, refl, ap, sym, ◌∙◌}
use mathlib.Core.List.{List, [], ◌∷◌, ◌++◌}
use native.Mathlib.Nat.{zero-add}
use native.Mathlib.Omega.{arith}
use mathlib.Core.Bool.{Bool, true, false}
use borrow.Author.Tests.{le-leb, lt-leb, leb-true}
use lib.ListN.{length, drop}
use lib.Dec.{leb}
use Rattle.std.specs.Prelude.{Ok, Err}
use Rattle.layout.specs.declared.Entry.{Entry}
use Rattle.layout.specs.Answers.{Checked, Lookup}
use Rattle.std.specs.Result.{IsErrAnd}
use Rattle.layout.proofs.Passed.{passed}
use Rattle.layout.specs.declared.Refusal.{Refusal}
use Rattle.layout.specs.Bytes.{if, part_at, refusal}
use Rattle.layout.specs.Editions.{shape, chosen}
use Rattle.layout.specs.Walk.{Raw}
use Rattle.layout.specs.Read.{Read, read_image}
use Rattle.layout.specs.Calls.{Step, told, told_checked, told_refusal, entries_of, entry_at, step_from}
use Rattle.layout.specs.Write.{word}
use Rattle.laws.specs.Passes.{walked, IsDone, raws_in}
use Rattle.laws.proofs.Records.{entries-count}
use Rattle.accept.specs.declared.Room.{Room}
use Rattle.accept.specs.Taken.{taken}
use Rattle.output.specs.Placing.{over, copied}
use Rattle.output.proofs.Overlay.{copied-over}
use Rattle.reader.specs.declared.Walk.{Walk}
use Rattle.accept.proofs.Rooms.{took, not-took}
use Rattle.records.specs.Packed.{packed}
use Rattle.records.specs.Words.{words_bytes, record_bytes, records_bytes}
use Rattle.records.proofs.Words.{length-words}
use Rattle.records.specs.Exports.{kept, recorded, entry_call, walk_format, walk_edition, walk_entry, walk_at, unmoved, stepped_to, step_call, recorded_all, recorded_by, list_call}
use Rattle.records.proofs.Words.{length-record, length-records}

-- the packed answer does not show the entries that are given
pub counted : (n : ℕ) (es : List Entry) → packed (told n (part_at 0 0) []) ≡ packed (told n (part_at 0 0) es)
unfolding packed
counted n es = refl

-- a refusal as an answer of a check
pub refused-as : {r q : Refusal} → r ≡ q → packed (told_checked (Err r)) ≡ packed (told_refusal q)
refused-as e = ap (λ (x : Refusal). packed (told_refusal x)) e

-- and one that a `?` hands on
pub handed-as : (x : Checked) (r : Refusal) → IsErrAnd x (λ q. q ≡ r) → packed (told_checked x) ≡ packed (told_refusal r)
handed-as x r a = ap (λ (y : Checked). packed (told_checked y)) (passed x a)

-- bytes over the first ones
pub over_first : (m s : List ℕ) (n : ℕ) → length s ≡ n → n ≤ length m → copied m 0 s ≡ s ++ drop n m
unfolding over
over_first m s n e le = copied-over m 0 s (omega arith) ∙ ap (λ (k : ℕ). s ++ drop k m) (zero-add (length s) ∙ e)

-- ---- one record

module _ (e : ℕ) (m : List ℕ) where
  pub none-recorded : (r : Refusal) (l : Lookup) → l ≡ Err r → recorded e l m ≡ kept r m
  none-recorded r l q = rw q

  pub not-recorded : (x : Entry) (l : Lookup) → l ≡ Ok x → length m < 64 → recorded e l m ≡ kept (refusal 12 0) m
  not-recorded x l q lt = rw (q, lt-leb 64 (length m) lt)

  pub is-recorded : (x : Entry) (l : Lookup) → l ≡ Ok x → 64 ≤ length m → recorded e l m ≡ record { answer = packed (told 1 (part_at 0 0) []); memory = copied m 0 (record_bytes e x) }
  is-recorded x l q le = rw (q, le-leb 64 (length m) le, over_first m (record_bytes e x) 64 (length-record e x) le, counted 1 (x ∷ []))

pub entry-is : (f e : ℕ) (img : List ℕ) (n : ℕ) (m : List ℕ) → entry_call f e img n m ≡ recorded e (entry_at f e img n) m
unfolding entry_call
entry-is f e img n m = refl

-- ---- the walk's step

-- a word that is all there, else 0
abbrev word_in : ℕ → List ℕ → ℕ
word_in a w = if (leb (a + 4) (length w)) (λ _. word a w) (λ _. 0)

abbrev pub steps_to : List ℕ → List ℕ → Step
steps_to w img = step_from (walk_format w) (walk_edition w) (walk_entry w) img

-- a walk that is cut short finds nothing
short-walk : (w img : List ℕ) (x : Entry) → (steps_to w img).answer ≡ Ok x → 16 ≤ length w
unfolding step_from entry_at read_image chosen
short-walk w img x q = by_length (leb 16 (length w)) refl
  where
    by_length : (b : Bool) → leb 16 (length w) ≡ b → 16 ≤ length w
    by_length true h = leb-true 16 (length w) h
    by_length false h =
        let none : Err (refusal 16 0) ≡ Ok x = rw h at q in
        let z : ◌≡◌ {A = ℕ} 0 1 = cc in absurd (omega arith)

-- the walk that its words say
pub walk-says : (w : List ℕ) (f e low high : ℕ) → 16 ≤ length w → f ≡ word_in 0 w → e ≡ word_in 4 w → low ≡ word_in 8 w → high ≡ word_in 12 w →
    ◌≡◌ {A = Walk} (record { format = f; edition = e; entry = low + high * 4294967296 }) (record { format = walk_format w; edition = walk_edition w; entry = walk_entry w })
walk-says w f e low high le i j k l =
    let n = length w in
    rw (i, j, k, l, le-leb 16 n le, le-leb 4 n (omega arith), le-leb 8 n (omega arith), le-leb 12 n (omega arith))

pub no_walk : (w : List ℕ) → length w < 16 →
    ◌≡◌ {A = Walk} (record { format = 0; edition = 0; entry = 0 }) (record { format = walk_format w; edition = walk_edition w; entry = walk_entry w })
no_walk w lt = rw (lt-leb 16 (length w) lt)

module _ (w img m : List ℕ) where
  pub step-refused : (r : Refusal) → (steps_to w img).answer ≡ Err r → step_call w img m ≡ unmoved r w m
  unfolding step_call
  step-refused r q = ap (λ (l : Lookup). stepped_to l (steps_to w img).next w m) q

  pub step-short : (x : Entry) → (steps_to w img).answer ≡ Ok x → length m < 64 → step_call w img m ≡ unmoved (refusal 12 0) w m
  unfolding step_call
  step-short x q lt = ap (λ (l : Lookup). stepped_to l (steps_to w img).next w m) q ∙ rw (lt-leb 64 (length m) lt)

  walk-moved : (n : ℕ) → 16 ≤ length w → copied w 8 (words_bytes (n ∷ n / 4294967296 ∷ [])) ≡ walk_at w n
  unfolding over
  walk-moved n le =
      let l : length (words_bytes (n ∷ n / 4294967296 ∷ [])) ≡ 8 = length-words (n ∷ n / 4294967296 ∷ []) in
      rw (copied-over w 8 (words_bytes (n ∷ n / 4294967296 ∷ [])) (omega arith), l)

  pub step_given : (x : Entry) → (steps_to w img).answer ≡ Ok x → 64 ≤ length m →
      step_call w img m ≡ record {
        answer = packed (told 1 (part_at 0 0) []);
        walk = copied w 8 (words_bytes ((steps_to w img).next ∷ (steps_to w img).next / 4294967296 ∷ []));
        memory = copied m 0 (record_bytes (walk_edition w) x);
      }
  unfolding step_call
  step_given x q le =
      ap (λ (l : Lookup). stepped_to l (steps_to w img).next w m) q
      ∙ rw (le-leb 64 (length m) le, walk-moved (steps_to w img).next (short-walk w img x q), over_first m (record_bytes (walk_edition w) x) 64 (length-record (walk_edition w) x) le, counted 1 (x ∷ []))

-- ---- the list

module _ (f e : ℕ) (img m : List ℕ) where
  pub list-refused : (r : Refusal) → taken f e img ≡ Err r → list_call f e img m ≡ kept r m
  unfolding list_call
  list-refused r q = ap (λ (x : Read). recorded_by x e m) (not-took f e img r q)

  module _ (room : Room) (q : taken f e img ≡ Ok room) where
    abbrev raws : List Raw
    raws = raws_in (walked room.format img room.start room.end)

    abbrev given : List Entry
    given = entries_of (shape room.format) e room.start raws

    are : (took f e img room q).entries ≡ raws
    are = sym (ap raws_in (took f e img room q).walks)

    many : length given ≡ room.count
    many = entries-count (shape room.format) e room.start raws ∙ ap length (sym are) ∙ sym (took f e img room q).counts

    listed : list_call f e img m ≡ recorded_all e given m
    unfolding list_call
    listed = ap (λ (x : Read). recorded_by x e m) (took f e img room q).read ∙ ap (λ (rs : List Raw). recorded_all e (entries_of (shape room.format) e room.start rs) m) are

    pub list-short : length m / 64 < room.count → list_call f e img m ≡ kept (refusal 12 0) m
    list-short lt = listed ∙ rw (lt-leb (length given) (length m / 64) (omega (arith, many)))

    pub record Fills : Type 0 where
      pub done : IsDone (walked room.format img room.start room.end)
      pub room_enough : length raws * 64 ≤ length m
      pub is : list_call f e img m ≡ record { answer = packed (told room.count (part_at 0 0) []); memory = copied m 0 (records_bytes e given) }

    pub list-fills : room.count ≤ length m / 64 → Fills
    list-fills le =
        let t = took f e img room q in
        let enough : length raws * 64 ≤ length m = omega (arith, le, many, entries-count (shape room.format) e room.start raws) in
        record {
          done = rw t.walks tt;
          room_enough = enough;
          is =
              listed
              ∙ rw (le-leb (length given) (length m / 64) (omega (arith, many)), over_first m (records_bytes e given) (length given * 64) (length-records e given) (omega (arith, many, le)), many, counted room.count given);
        }
