-- The bytes of a new file by blocks of the old one.
-- Assumes nothing.
use Prim.Native.Nat.{ℕ, ◌+◌, ◌*◌, ◌-◌, ◌/◌, ◌≤◌, ◌<◌}
use mathlib.Core.Path.{◌≡◌, refl, ap, ap₂, sym, ◌∙◌}
use mathlib.Core.List.{List, [], ◌++◌, append_assoc, append-nil}
use native.Mathlib.Omega.{arith}
use lib.ListN.{length, drop, length-append, length-drop}
use lib.Seq.{take_at, drop_at, length-take-le}
use borrow.Author.Tests.{le-leb, lt-leb}
use Rattle.std.specs.Prelude.{Ok}
use Rattle.layout.specs.Bytes.{part, refusal}
use Rattle.layout.specs.Write.{refuse, put_bytes}
use Rattle.layout.proofs.Lists.{joined-append}
use Rattle.output.specs.Placing.{copied}
use Rattle.output.proofs.Overlay.{copied-then, copied-front}
use Rattle.rooms.specs.File.{Board, head, row_of, rows_of, bodies_of, file_of}
use Rattle.rooms.proofs.Reading.{rows-length, head-length, bodies-append, file-length}
use Rattle.rooms.specs.Calls.{below, above, changed}
use Rattle.room_calls.specs.declared.Tally.{Tally}
use Rattle.room_calls.specs.Boards.{own, tally_of}
use Rattle.room_calls.specs.Laying.{rows_gone, between, laid, Lies}

-- ---- blocks

pub length_part : (a n : ℕ) (s : List ℕ) → a + n ≤ length s → length (part a n s) ≡ n
unfolding part
length_part a n s le = length-take-le n (drop a s) (omega (arith, length-drop a s))

pub length-between : (from cut next end : ℕ) (new s : List ℕ) → from ≤ cut → cut ≤ length s → next ≤ end → end ≤ length s → length (between from cut next end new s) ≡ cut - from + (length new + (end - next))
unfolding between
length-between from cut next end new s a b c d =
    omega (
      arith,
      length-append (part from (cut - from) s) (new ++ part next (end - next) s),
      length-append new (part next (end - next) s),
      length_part from (cut - from) s (omega arith),
      length_part next (end - next) s (omega arith),
    )

-- a block between two others
part-is : (a x z s : List ℕ) (n k : ℕ) → s ≡ a ++ (x ++ z) → length a ≡ n → length x ≡ k → part n k s ≡ x
unfolding part
part-is a x z s n k q e l = rw (q, drop_at a (x ++ z) n e, take_at x z k l)

three : (x m y z : List ℕ) → x ++ (m ++ y) ++ z ≡ x ++ (m ++ (y ++ z))
three x m y z = simp append_assoc

-- x, m and y stand one after another in s, after a: without m, and with what is new
between_is : (a x m y z s new : List ℕ) (from cut next end : ℕ) → s ≡ a ++ (x ++ (m ++ (y ++ z))) →
    length a ≡ from → from + length x ≡ cut → cut + length m ≡ next → next + length y ≡ end → between from cut next end new s ≡ x ++ (new ++ y)
unfolding between
between_is a x m y z s new from cut next end q f c n e =
    let first = part-is a x (m ++ (y ++ z)) s from (cut - from) q f (omega arith) in
    let last : part next (end - next) s ≡ y =
    part-is (a ++ (x ++ m)) y z s next (end - next) (q ∙ simp append_assoc) (length-append a (x ++ m) ∙ ap (λ (k : ℕ). length a + k) (length-append x m) ∙ omega arith) (omega arith) in
    rw (first, last)

-- three copies, one after another
module _ (d : List ℕ) (to : ℕ) (x new z : List ℕ) where
  long : length (x ++ (new ++ z)) ≡ length x + (length new + length z)
  long = length-append x (new ++ z) ∙ ap (λ (k : ℕ). length x + k) (length-append new z)

  pub between-room : to + length (x ++ (new ++ z)) ≤ length d → to + length x + length new ≤ length d
  between-room le = omega (arith, long)

  pub between_put : {d₁ d₂ d₃ : List ℕ} → d₁ ≡ copied d to x → d₂ ≡ copied d₁ (to + length x) new → d₃ ≡ copied d₂ (to + length x + length new) z →
      to + length (x ++ (new ++ z)) ≤ length d → d₃ ≡ copied d to (x ++ (new ++ z))
  between_put a b c le =
      let l : length (x ++ new) ≡ length x + length new = length-append x new in
      let l2 : length (x ++ new ++ z) ≡ length (x ++ new) + length z = length-append (x ++ new) z in
      copied-then d to (x ++ new) z (copied-then d to x new a b (omega (arith, l, long)) refl) c (omega (arith, l, l2, long)) (omega (arith, l)) ∙ ap (copied d to) (append_assoc x new z)

-- ---- lists of boards

rows_append : (xs ys : List Board) → rows_of (xs ++ ys) ≡ rows_of xs ++ rows_of ys
unfolding rows_of
rows_append = joined-append rows_of row_of refl (λ b bs. refl)

-- ---- the new file

-- what a tally has lies in the file: how long the blocks are
module _ (form : ℕ) (file : List ℕ) (t : Tally) (row body : List ℕ) (lies : Lies (length file) t) where
  pub length-new-rows : length (between 8 (8 + 8 * t.rows) (8 + 8 * t.rows + 8 * rows_gone t.own) (8 + 8 * t.count) row file) ≡ 8 * t.count - 8 * rows_gone t.own + length row
  length-new-rows =
      length-between 8 (8 + 8 * t.rows) (8 + 8 * t.rows + 8 * rows_gone t.own) (8 + 8 * t.count) row file (omega arith) (omega (arith, lies.rows, lies.bodies)) (omega (arith, lies.rows)) (omega (arith, lies.bodies))
      ∙ omega (arith, lies.rows)

  -- wherever the body that goes stands
  pub length-new-bodies : (cut : ℕ) → 8 + 8 * t.count ≤ cut → cut + t.own ≤ length file →
      length (between (8 + 8 * t.count) cut (cut + t.own) (length file) body file) ≡ length file - (8 + 8 * t.count) - t.own + length body
  length-new-bodies cut from to =
      length-between (8 + 8 * t.count) cut (cut + t.own) (length file) body file from (omega (arith, to)) to (omega arith) ∙ omega (arith, from, to)

  pub length-laid : length (laid form file t row body) ≡ length file - 8 * rows_gone t.own - t.own + length row + length body
  unfolding laid
  length-laid =
      let h : List ℕ = head form (t.count - rows_gone t.own + length row / 8) in
      let rs : List ℕ = between 8 (8 + 8 * t.rows) (8 + 8 * t.rows + 8 * rows_gone t.own) (8 + 8 * t.count) row file in
      let bs : List ℕ = between (8 + 8 * t.count) (8 + 8 * t.count + t.below) (8 + 8 * t.count + t.below + t.own) (length file) body file in
      omega (arith, length-append h (rs ++ bs), length-append rs bs, head-length form (t.count - rows_gone t.own + length row / 8), length-new-rows, length-new-bodies (8 + 8 * t.count + t.below) (omega arith) lies.bodies, lies.rows, lies.bodies)

  module _ (out : List ℕ) where
    pub laid-short : length out < length file - 8 * rows_gone t.own - t.own + length row + length body → put_bytes (laid form file t row body) out ≡ refuse (refusal 12 0) out
    laid-short lt = rw (lt-leb (length (laid form file t row body)) (length out) (omega (arith, length-laid)))

    pub laid-fits : length file - 8 * rows_gone t.own - t.own + length row + length body ≤ length out →
        put_bytes (laid form file t row body) out ≡ record { answer = Ok (length file - 8 * rows_gone t.own - t.own + length row + length body); memory = copied out 0 (laid form file t row body) }
    laid-fits le =
        let fits : length (laid form file t row body) ≤ length out = omega (arith, length-laid) in
        rw (le-leb (length (laid form file t row body)) (length out) fits, copied-front out (laid form file t row body) fits, length-laid)

-- head, rows and bodies, one after another
module _ (form : ℕ) (file : List ℕ) (t : Tally) (row body : List ℕ) (lies : Lies (length file) t) (out : List ℕ) {gone : ℕ} (is : gone ≡ rows_gone t.own) where
  module _ (le : length (laid form file t row body) ≤ length out) where
    pub rows-room : 8 + length (between 8 (8 + 8 * t.rows) (8 + 8 * t.rows + 8 * gone) (8 + 8 * t.count) row file) ≤ length out
    rows-room = rw is (omega (arith, length-new-rows form file t row body lies, length-laid form file t row body lies, lies.rows, lies.bodies))

    pub bodies-room : (cut : ℕ) → 8 + 8 * t.count ≤ cut → cut + t.own ≤ length file →
        8 + 8 * t.count - 8 * gone + length row + length (between (8 + 8 * t.count) cut (cut + t.own) (length file) body file) ≤ length out
    bodies-room cut from to = rw is (omega (arith, length-new-bodies form file t row body lies cut from to, length-laid form file t row body lies, lies.rows, lies.bodies))

  pub laid-put : {h d₁ d₂ d₃ : List ℕ} → h ≡ head form (t.count - gone + length row / 8) → d₁ ≡ copied out 0 h →
      d₂ ≡ copied d₁ 8 (between 8 (8 + 8 * t.rows) (8 + 8 * t.rows + 8 * gone) (8 + 8 * t.count) row file) →
      d₃ ≡ copied d₂ (8 + 8 * t.count - 8 * gone + length row) (between (8 + 8 * t.count) (8 + 8 * t.count + t.below) (8 + 8 * t.count + t.below + t.own) (length file) body file) →
      length (laid form file t row body) ≤ length out → d₃ ≡ copied out 0 (laid form file t row body)
  unfolding laid
  laid-put {h} q a b c le =
      let x : List ℕ = head form (t.count - rows_gone t.own + length row / 8) in
      let y : List ℕ = between 8 (8 + 8 * t.rows) (8 + 8 * t.rows + 8 * rows_gone t.own) (8 + 8 * t.count) row file in
      let z : List ℕ = between (8 + 8 * t.count) (8 + 8 * t.count + t.below) (8 + 8 * t.count + t.below + t.own) (length file) body file in
      let lx : length x ≡ 8 = head-length form (t.count - rows_gone t.own + length row / 8) in
      let ly = length-new-rows form file t row body lies in
      let l : length (x ++ y) ≡ length x + length y = length-append x y in
      let l2 : length (x ++ y ++ z) ≡ length (x ++ y) + length z = length-append (x ++ y) z in
      let l3 : length (x ++ (y ++ z)) ≡ length (x ++ y ++ z) = ap length (sym (append_assoc x y z)) in
      let first = a ∙ ap (copied out 0) (q ∙ ap (λ (k : ℕ). head form (t.count - k + length row / 8)) is) in
      let second = copied-then out 0 x y first (rw is at b) (omega (arith, l, l2, l3)) (omega (arith, lx)) in
      copied-then out 0 (x ++ y) z second c (omega (arith, l2, l3)) (omega (arith, lx, ly, l, is, lies.rows)) ∙ ap (copied out 0) (append_assoc x y z)

-- the blocks of a file of boards that are split by a board number
module _ (form : ℕ) (bs : List Board) (n : ℕ) (split : bs ≡ below n bs ++ (own n bs ++ above n bs)) (gone : rows_gone (length (bodies_of (own n bs))) ≡ length (own n bs)) where
  count : length bs ≡ length (below n bs) + (length (own n bs) + length (above n bs))
  count = ap length split ∙ length-append (below n bs) (own n bs ++ above n bs) ∙ ap (λ (k : ℕ). length (below n bs) + k) (length-append (own n bs) (above n bs))

  rows_split : rows_of bs ≡ rows_of (below n bs) ++ (rows_of (own n bs) ++ rows_of (above n bs))
  rows_split = ap rows_of split ∙ rows_append (below n bs) (own n bs ++ above n bs) ∙ ap (λ (l : List ℕ). rows_of (below n bs) ++ l) (rows_append (own n bs) (above n bs))

  bodies-split : bodies_of bs ≡ bodies_of (below n bs) ++ (bodies_of (own n bs) ++ bodies_of (above n bs))
  bodies-split = ap bodies_of split ∙ bodies-append (below n bs) (own n bs ++ above n bs) ∙ ap (λ (l : List ℕ). bodies_of (below n bs) ++ l) (bodies-append (own n bs) (above n bs))

  bodies-count : length (bodies_of bs) ≡ length (bodies_of (below n bs)) + (length (bodies_of (own n bs)) + length (bodies_of (above n bs)))
  bodies-count =
      ap length bodies-split
      ∙ length-append (bodies_of (below n bs)) (bodies_of (own n bs) ++ bodies_of (above n bs))
      ∙ ap (λ (k : ℕ). length (bodies_of (below n bs)) + k) (length-append (bodies_of (own n bs)) (bodies_of (above n bs)))

  pub tally-lies : Lies (length (file_of form bs)) (tally_of n bs)
  tally-lies = record { rows = omega (arith, count, gone); bodies = omega (arith, file-length form bs, bodies-count) }

  module _ (new : List Board) where
    whole : (h : List Board → List ℕ) → ((xs ys : List Board) → h (xs ++ ys) ≡ h xs ++ h ys) → h (below n bs) ++ (h new ++ h (above n bs)) ≡ h (changed n new bs)
    whole h both = sym (both (below n bs) (new ++ above n bs) ∙ ap (λ (l : List ℕ). h (below n bs) ++ l) (both new (above n bs)))

    new-count : length bs - rows_gone (length (bodies_of (own n bs))) + length (rows_of new) / 8 ≡ length (changed n new bs)
    new-count = omega (arith, count, gone, rows-length new, length-append (below n bs) (new ++ above n bs), length-append new (above n bs))

    new-rows : between 8 (8 + 8 * length (below n bs)) (8 + 8 * length (below n bs) + 8 * rows_gone (length (bodies_of (own n bs)))) (8 + 8 * length bs) (rows_of new) (file_of form bs) ≡ rows_of (changed n new bs)
    unfolding file_of
    new-rows =
        between_is (head form (length bs)) (rows_of (below n bs)) (rows_of (own n bs)) (rows_of (above n bs)) (bodies_of bs) (file_of form bs) (rows_of new) 8 (8 + 8 * length (below n bs))
        (8 + 8 * length (below n bs) + 8 * rows_gone (length (bodies_of (own n bs)))) (8 + 8 * length bs)
        (ap (λ (l : List ℕ). head form (length bs) ++ (l ++ bodies_of bs)) rows_split ∙ ap (λ (l : List ℕ). head form (length bs) ++ l) (three (rows_of (below n bs)) (rows_of (own n bs)) (rows_of (above n bs)) (bodies_of bs)))
        (head-length form (length bs))
        (omega (arith, rows-length (below n bs)))
        (omega (arith, rows-length (own n bs), gone))
        (omega (arith, rows-length (above n bs), gone, count))
        ∙ whole rows_of rows_append

    new-bodies : between (8 + 8 * length bs) (8 + 8 * length bs + length (bodies_of (below n bs))) (8 + 8 * length bs + length (bodies_of (below n bs)) + length (bodies_of (own n bs))) (length (file_of form bs)) (bodies_of new) (file_of form bs) ≡ bodies_of (changed n new bs)
    unfolding file_of
    new-bodies =
        between_is (head form (length bs) ++ rows_of bs) (bodies_of (below n bs)) (bodies_of (own n bs)) (bodies_of (above n bs)) [] (file_of form bs) (bodies_of new) (8 + 8 * length bs) (8 + 8 * length bs + length (bodies_of (below n bs)))
        (8 + 8 * length bs + length (bodies_of (below n bs)) + length (bodies_of (own n bs))) (length (file_of form bs))
        (sym (append_assoc (head form (length bs)) (rows_of bs) (bodies_of bs)) ∙ ap (λ (l : List ℕ). head form (length bs) ++ rows_of bs ++ l) (bodies-split ∙ ap (λ (l : List ℕ). bodies_of (below n bs) ++ (bodies_of (own n bs) ++ l)) (sym (append-nil (bodies_of (above n bs))))))
        (omega (arith, length-append (head form (length bs)) (rows_of bs), head-length form (length bs), rows-length bs))
        refl
        refl
        (omega (arith, file-length form bs, bodies-count))
        ∙ whole bodies_of bodies-append

    -- the file with the new boards in the place of number n
    pub laid-is : laid form (file_of form bs) (tally_of n bs) (rows_of new) (bodies_of new) ≡ file_of form (changed n new bs)
    unfolding laid file_of
    laid-is = ap₂ (λ (a b : List ℕ). a ++ b) (ap (head form) new-count) (ap₂ (λ (a b : List ℕ). a ++ b) new-rows new-bodies)
