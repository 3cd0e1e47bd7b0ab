-- What the check says of one body, and of the bodies of a file, one after another.
-- Assumes nothing.
use Prim.Native.Nat.{ℕ, ◌+◌, ◌*◌, ◌-◌, ◌≤◌, ◌<◌}
use mathlib.Core.Path.{◌≡◌, refl, ap, sym, ◌∙◌}
use mathlib.Core.List.{List, [], map}
use native.Mathlib.Omega.{arith}
use lib.ListN.{length, get_or, take, drop, length-drop}
use lib.Seq.{length-take-le, drop-drop}
use Rattle.std.specs.Prelude.{Ok, Err}
use Rattle.layout.specs.declared.Refusal.{Refusal}
use Rattle.layout.specs.Answers.{Checked}
use Rattle.layout.specs.Bytes.{refusal}
use Rattle.layout.specs.Calls.{check_image}
use Rattle.layout.specs.Change.{Allowed, allowed, denied}
use Rattle.promises.proofs.Entries.{CheckedIn}
use Rattle.promises.proofs.ReadCalls.{checked-in}
use Rattle.promises.proofs.Refusals.{farthest}
use Rattle.rooms.specs.File.{row_in, rows_in, sizes, boards_of}
use Rattle.rooms.specs.Calls.{and_then, body_allowed, judge_bodies}
use Rattle.room_calls.specs.declared.Row.{Row as Taken}
use Rattle.room_calls.specs.Rows.{as_row}
use Rattle.room_calls.specs.Boards.{judged_by, boards_at}
use Rattle.room_calls.proofs.Scanning.{rows_from, rows_more, rows_none}

-- ---- one body

module _ (f e : ℕ) (s : List ℕ) (p : ℕ) {x : Checked} (is : x ≡ check_image f e s) where
  pub body-fine : {n : ℕ} → x ≡ Ok n → (Ok tt) ≡ judged_by (body_allowed (check_image f e s) p)
  body-fine q = ap (λ (y : Checked). judged_by (body_allowed y p)) (sym q ∙ is)

  pub body-faulty : {r : Refusal} → x ≡ Err r → Err (refusal r.number (p + r.place.0)) ≡ judged_by (body_allowed (check_image f e s) p)
  body-faulty q = ap (λ (y : Checked). judged_by (body_allowed y p)) (sym q ∙ is)

  pub body-place : {r : Refusal} → x ≡ Err r → r.place.0 ≤ farthest
  body-place {r} q = let l : CheckedIn (Err r) = rw (sym is ∙ q) at (checked-in f e s) in l.place

-- ---- all bodies

pub fine-allowed : (a : Allowed) → (Ok tt) ≡ judged_by a → a ≡ allowed
fine-allowed allowed q = refl
fine-allowed (denied r) q = let z : ◌≡◌ {A = ℕ} 0 1 = cc in absurd (omega arith)

pub faulty-denied : (a : Allowed) (r : Refusal) → Err r ≡ judged_by a → a ≡ denied r
faulty-denied allowed r q = let z : ◌≡◌ {A = ℕ} 0 1 = cc in absurd (omega arith)
faulty-denied (denied x) r q = let same : x ≡ r = cc in ap denied same

-- what is said of the body at p, which has this row
abbrev pub said : ℕ → List ℕ → Taken → ℕ → Allowed
said e file r p = body_allowed (check_image r.format e (take (p + r.size - p) (drop p file))) p

-- what is said of all bodies is said of those of the rows from row i on, of which the first stands at p
pub record Judging (e : ℕ) (file : List ℕ) (start : ℕ) (rows : List (List ℕ)) (i p : ℕ) : Type 0 where
  pub fits : p + sizes (rows_from rows i) ≡ length file
  pub is : judge_bodies e start (boards_of (map row_in rows) (drop start file)) ≡ judge_bodies e p (boards_of (rows_from rows i) (drop p file))

module _ (n : ℕ) {e : ℕ} {file : List ℕ} {rows : List (List ℕ)} (are : map row_in rows ≡ rows_in n (drop 8 file)) where
  pub judging-starts : 8 + 8 * n + sizes (rows_in n (drop 8 file)) ≡ length file → Judging e file (8 + 8 * n) rows 0 (8 + 8 * n)
  judging-starts fits = record { fits = rw are fits; is = refl }

  module _ {i p : ℕ} (w : Judging e file (8 + 8 * n) rows i p) where
    module _ {r : Taken} (some : i < length rows) (taken : as_row r ≡ row_in (get_or rows i [])) where
      pub judging-size : p + r.size + sizes (rows_from rows (i + 1)) ≡ length file
      unfolding sizes
      judging-size = let f = rw (rows_more rows i some taken) at w.fits in omega (arith, f)

      next : judge_bodies e p (boards_of (rows_from rows i) (drop p file))
          ≡ and_then (said e file r p) (λ _. judge_bodies e (p + r.size) (boards_of (rows_from rows (i + 1)) (drop (p + r.size) file)))
      unfolding boards_of judge_bodies
      next =
          let le : r.size ≤ length (drop p file) = omega (arith, length-drop p file, judging-size) in
          let size : p + r.size - p ≡ r.size = omega arith in
          rw (rows_more rows i some taken, size, length-take-le r.size (drop p file) le, drop-drop r.size p file)

      pub judging-on : (Ok tt) ≡ judged_by (said e file r p) → Judging e file (8 + 8 * n) rows (i + 1) (p + r.size)
      judging-on fine = record { fits = judging-size; is = w.is ∙ next ∙ rw (fine-allowed (said e file r p) fine) }

      pub judging-stops : {x : Refusal} → Err x ≡ judged_by (said e file r p) → Err x ≡ judged_by (judge_bodies e (8 + 8 * n) (boards_at n file))
      judging-stops {x} faulty = rw (← are, w.is, next, faulty-denied (said e file r p) x faulty)

    pub judging-ends : length rows ≤ i → (Ok tt) ≡ judged_by (judge_bodies e (8 + 8 * n) (boards_at n file))
    unfolding boards_of judge_bodies
    judging-ends none = rw (← are, w.is, rows_none rows i none)
