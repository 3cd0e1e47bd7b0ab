-- What a file is read as by the tests of the code, and what is known of one that is opened.
-- Assumes nothing.
use Prim.Native.Nat.{ℕ, zero, suc, ◌+◌, ◌*◌, ◌-◌, ◌≤◌, ◌<◌}
use mathlib.Core.Path.{◌≡◌, refl, ap, sym, ◌∙◌}
use mathlib.Core.List.{List}
use mathlib.Core.Bool.{Bool, true, false, ◌&&◌, ◌||◌, and-false}
use native.Mathlib.Omega.{arith}
use lib.ListN.{length, take, drop, length-take, length-drop}
use lib.Dec.{ltb, leb}
use borrow.Author.Tests.{ltb-false, lt-ltb, le-ltb, le-leb, lt-leb, eq-eqb, ne_eqb}
use Rattle.std.specs.Prelude.{Ok, Err, Some, None}
use Rattle.layout.specs.declared.Refusal.{Refusal}
use Rattle.layout.specs.Bytes.{if, same_bytes, part, refusal}
use Rattle.layout.specs.Editions.{known_edition}
use Rattle.layout.specs.Read.{limit}
use Rattle.parts.proofs.Loops.{unlike, same-pairs}
use Rattle.rooms.specs.File.{Board, head, count_in, known_form, headed, Row, rows_in, right_from, sizes, Room, holds, wrong, read_rows, read_room}
use Rattle.rooms.proofs.Reading.{boards-count, reads}
use Rattle.rooms.specs.Calls.{has, has_not, opened_by, open_room}
use Rattle.room_calls.specs.Answers.{Found}
use Rattle.room_calls.specs.declared.Tally.{Tally}
use Rattle.room_calls.specs.Rows.{tallied, scanned}
use Rattle.room_calls.specs.Boards.{tally_of, found_by, boards_at, Stored}
use Rattle.room_calls.proofs.Boards.{Tallies, tally-boards}

-- ---- the head

-- a head that is stored is compared with the one of the count that it says
pub headed-is : (form : ℕ) (file : List ℕ) {h : List ℕ} {n : ℕ} → form ≡ 1 → n ≡ count_in file → h ≡ head form n → same_bytes (part 0 (length h) file) h ≡ headed form file
unfolding headed part head
headed-is form file f c q = rw (q, c, eq-eqb form 1 f)

-- ---- the pass over the rows

module _ (n : ℕ) (rs : List Row) where
  pub scanned-wrong : scanned n rs ≡ None → right_from 0 rs ≡ false
  scanned-wrong q = go (right_from 0 rs) q
    where
      go : (b : Bool) → if b (λ _. Some (tallied n rs)) (λ _. None) ≡ None → b ≡ false
      go true q = let z : ◌≡◌ {A = ℕ} 0 1 = cc in absurd (omega arith)
      go false q = refl

  pub scanned-right : {t : Tally} → scanned n rs ≡ Some t → (right_from 0 rs ≡ true) × (t ≡ tallied n rs)
  scanned-right {t} q = go (right_from 0 rs) q
    where
      go : (b : Bool) → if b (λ _. Some (tallied n rs)) (λ _. None) ≡ Some t → (b ≡ true) × (t ≡ tallied n rs)
      go true q = (refl, cc)
      go false q = let z : ◌≡◌ {A = ℕ} 0 1 = cc in absurd (omega arith)

-- ---- reading

rows-count : (n : ℕ) (s : List ℕ) → length (rows_in n s) ≡ n
unfolding rows_in
rows-count zero s = refl
rows-count (suc n) s = ap suc (rows-count n (drop 8 s))

module _ (form : ℕ) (file : List ℕ) (wanted : ℕ) where
  -- 21
  refused : read_room form file ≡ wrong → Err (refusal 21 0) ≡ found_by (opened_by (read_room form file)) wanted
  refused q = sym (ap (λ (x : Room). found_by (opened_by x) wanted) q)

  pub unheaded : headed form file ≡ false → Err (refusal 21 0) ≡ found_by (opened_by (read_room form file)) wanted
  unfolding read_room
  unheaded h = rw h

  pub headless : length file < 8 → Err (refusal 21 0) ≡ found_by (opened_by (read_room form file)) wanted
  unfolding headed head
  headless lt =
      unheaded
      (ap (λ (b : Bool). known_form form && b) (sym (unlike same-pairs (take 8 file) (head form (count_in file)) (λ e. omega (arith, length-take 8 file, e))))
      ∙ and-false (known_form form))

  module _ (h : headed form file ≡ true) (n : ℕ) (is : n ≡ count_in file) where
    by_rows : (b : Bool) → leb (8 + 8 * n) (length file) ≡ b → read_room form file ≡ if b (λ _. read_rows (rows_in n (drop 8 file)) (drop (8 + 8 * n) file)) (λ _. wrong)
    unfolding read_room
    by_rows b l = rw (h, ← is, l)

    pub rows-beyond : length file < 8 + 8 * n → Err (refusal 21 0) ≡ found_by (opened_by (read_room form file)) wanted
    rows-beyond lt = refused (by_rows false (lt-leb (8 + 8 * n) (length file) lt))

    module _ (le : 8 + 8 * n ≤ length file) where
      pub rows-wrong : scanned wanted (rows_in n (drop 8 file)) ≡ None → Err (refusal 21 0) ≡ found_by (opened_by (read_room form file)) wanted
      rows-wrong q = refused (by_rows true (le-leb (8 + 8 * n) (length file) le) ∙ rw (scanned-wrong wanted (rows_in n (drop 8 file)) q))

      module _ {t : Tally} (q : scanned wanted (rows_in n (drop 8 file)) ≡ Some t) where
        total : t.total ≡ sizes (rows_in n (drop 8 file))
        total = ap (λ (x : Tally). x.total) (scanned-right wanted (rows_in n (drop 8 file)) q).1

        pub rows-unended : (t.total ≡ length file - (8 + 8 * n) → ⊥) → Err (refusal 21 0) ≡ found_by (opened_by (read_room form file)) wanted
        rows-unended ne =
            refused
            (by_rows true (le-leb (8 + 8 * n) (length file) le)
            ∙ rw ((scanned-right wanted (rows_in n (drop 8 file)) q).0, ne_eqb (sizes (rows_in n (drop 8 file))) (length (drop (8 + 8 * n) file)) (λ e. ne (total ∙ e ∙ length-drop (8 + 8 * n) file))))

        pub rows-ended : t.total ≡ length file - (8 + 8 * n) → Ok t ≡ found_by (opened_by (read_room form file)) wanted
        rows-ended e =
            let ends : sizes (rows_in n (drop 8 file)) ≡ length (drop (8 + 8 * n) file) = sym total ∙ e ∙ sym (length-drop (8 + 8 * n) file) in
            let right = scanned-right wanted (rows_in n (drop 8 file)) q in
            let k = tally-boards wanted 0 (rows_in n (drop 8 file)) (drop (8 + 8 * n) file) right.0 (omega (arith, ends)) in
            let room : read_room form file ≡ holds (boards_at n file) = by_rows true (le-leb (8 + 8 * n) (length file) le) ∙ rw (right.0, eq-eqb (sizes (rows_in n (drop 8 file))) (length (drop (8 + 8 * n) file)) ends) in
            let tally : t ≡ tally_of wanted (boards_at n file) = right.1 ∙ tally-is (rows_in n (drop 8 file)) (boards_at n file) (rows-count n (drop 8 file) ∙ sym (boards-count n (drop 8 file) (drop (8 + 8 * n) file))) k in
            ap Ok tally ∙ sym (ap (λ (x : Room). found_by (opened_by x) wanted) room)
          where
            tally-is : (rs : List Row) (bs : List Board) → length rs ≡ length bs → Tallies wanted rs bs → tallied wanted rs ≡ tally_of wanted bs
            tally-is rs bs many k = rw (many, k.rows, k.bytes, k.its, k.total)

-- ---- opening

module _ (form e : ℕ) (file : List ℕ) (lent wanted : ℕ) where
  pub unknown-edition : known_edition e ≡ false → Err (refusal 1 0) ≡ found_by (open_room form e file lent) wanted
  unfolding open_room
  unknown-edition k = rw k

  module _ (k : known_edition e ≡ true) where
    pub long-file : limit < length file → Err (refusal 2 0) ≡ found_by (open_room form e file lent) wanted
    unfolding open_room
    long-file lt = rw (k, lt-ltb limit (length file) lt)

    pub long-output : length file ≤ limit → limit < lent → Err (refusal 2 0) ≡ found_by (open_room form e file lent) wanted
    unfolding open_room
    long-output le lt = rw (k, le-ltb limit (length file) le, lt-ltb limit lent lt)

    pub opened : length file ≤ limit → lent ≤ limit → open_room form e file lent ≡ opened_by (read_room form file)
    unfolding open_room
    opened le lent-le = rw (k, le-ltb limit (length file) le, le-ltb limit lent lent-le)

-- ---- what is known of a file that is opened

pub record Opens (form e : ℕ) (file : List ℕ) (lent : ℕ) (t : Tally) (wanted : ℕ) : Type 0 where
  pub opens : open_room form e file lent ≡ has (boards_at t.count file)
  pub stored : Stored form file t wanted
  pub lent_short : lent ≤ limit

pub found : (form e : ℕ) (file : List ℕ) (lent : ℕ) (t : Tally) (wanted : ℕ) → found_by (open_room form e file lent) wanted ≡ Ok t → Opens form e file lent t wanted
unfolding open_room
found form e file lent t wanted q = go (known_edition e) (ltb limit (length file)) (ltb limit lent) refl refl refl q
  where
    not_found : {A : Type 0} {r : Refusal} → ◌≡◌ {A = Found} (Err r) (Ok t) → A
    not_found q = let z : ◌≡◌ {A = ℕ} 0 1 = cc in absurd (omega arith)

    room : (x : Room) → read_room form file ≡ x → length file ≤ limit → found_by (opened_by x) wanted ≡ Ok t → Stored form file t wanted
    room (holds bs) r le q =
        let k = reads form file bs r in
        let tally : tally_of wanted bs ≡ t = cc in
        let many : length bs ≡ t.count = ap (λ (x : Tally). x.count) tally in
        let count : count_in file ≡ t.count = sym (boards-count (count_in file) (drop 8 file) (drop (8 + 8 * count_in file) file)) ∙ ap length k.is ∙ many in
        let are : bs ≡ boards_at t.count file = sym k.is ∙ ap (λ (m : ℕ). boards_at m file) count in
        let whole : 8 + 8 * count_in file + sizes (rows_in (count_in file) (drop 8 file)) ≡ length file = omega (arith, k.long, k.sum, length-drop (8 + 8 * count_in file) file) in
        record {
          right = r ∙ ap holds are;
          tally = sym tally ∙ ap (tally_of wanted) are;
          whole = rw count at whole;
          short = le;
        }
    room wrong r le q = not_found q

    go : (a b c : Bool) → known_edition e ≡ a → ltb limit (length file) ≡ b → ltb limit lent ≡ c →
        found_by (if a (λ _. if (b || c) (λ _. has_not (refusal 2 0)) (λ _. opened_by (read_room form file))) (λ _. has_not (refusal 1 0))) wanted ≡ Ok t → Opens form e file lent t wanted
    go true true c k f l q = not_found q
    go true false true k f l q = not_found q
    go true false false k f l q =
        let w = room (read_room form file) refl (ltb-false limit (length file) f) q in
        record { opens = rw (k, f, l, w.right); stored = w; lent_short = ltb-false limit lent l }
    go false b c k f l q = not_found q
