-- The pass over the rows of a file: one row more, and how it ends.
-- Assumes nothing.
use Prim.Native.Nat.{ℕ, suc, ◌+◌, ◌*◌, ◌≤◌, ◌<◌}
use mathlib.Core.Path.{◌≡◌, refl, ap, ap₂, sym, ◌∙◌}
use mathlib.Core.List.{List, [], ◌∷◌, map}
use mathlib.Core.Bool.{Bool, true, false}
use native.Mathlib.Nat.{add-zero, zero-add}
use native.Mathlib.Omega.{arith}
use lib.ListN.{length, get_or, drop, length-map, drop_of_length-le}
use lib.Seq.{drop-cons}
use lib.Dec.{ltb, eqb}
use Rattle.std.specs.Prelude.{Some, None}
use Rattle.rooms.specs.File.{Row, row_in, right_from, sizes}
use Rattle.room_calls.specs.declared.Row.{Row as Taken}
use Rattle.room_calls.specs.declared.Tally.{Tally}
use Rattle.room_calls.specs.Rows.{as_row, right_row, weigh, with_row, sum, low_row, low_size, own_size, scanned}

-- the rows from row i on
abbrev pub rows_from : List (List ℕ) → ℕ → List Row
rows_from rows i = map row_in (drop i rows)

pub rows_more : (rows : List (List ℕ)) (i : ℕ) {r : Taken} → i < length rows → as_row r ≡ row_in (get_or rows i []) → rows_from rows i ≡ as_row r ∷ rows_from rows (i + 1)
rows_more rows i lt is =
    let e : suc i ≡ i + 1 = omega arith in
    ap (map row_in) (drop-cons rows i [] lt) ∙ ap₂ (λ (x : Row) (k : ℕ). x ∷ rows_from rows k) (sym is) e

pub rows_none : (rows : List (List ℕ)) (i : ℕ) → length rows ≤ i → rows_from rows i ≡ []
rows_none rows i le = ap (map row_in) (drop_of_length-le rows le)

-- rows come to what the tally has and what is left
pub record Adds (n : ℕ) (all rest : List Row) (t : Tally) : Type 0 where
  pub rows : t.rows + sum (low_row n) rest ≡ sum (low_row n) all
  pub below : t.below + sum (low_size n) rest ≡ sum (low_size n) all
  pub own : t.own + sum (own_size n) rest ≡ sum (own_size n) all
  pub total : t.total + sizes rest ≡ sizes all

-- the pass stands at row i, whose number is to be at least this
pub record Scanning (rows : List (List ℕ)) (wanted : ℕ) (t : Tally) (i low : ℕ) : Type 0 where
  pub right : right_from 0 (map row_in rows) ≡ right_from low (rows_from rows i)
  pub adds : Adds wanted (map row_in rows) (rows_from rows i) t
  pub count : t.count ≡ length rows
  pub few_rows : t.rows ≤ i
  pub few_below : t.below ≤ 65535 * i
  pub few_own : t.own ≤ 65535 * i
  pub few_total : t.total ≤ 65535 * i

pub scanning-starts : (rows : List (List ℕ)) (wanted : ℕ) → Scanning rows wanted (record { count = length rows; rows = 0; below = 0; own = 0; total = 0 }) 0 0
scanning-starts rows wanted =
    record {
      right = refl;
      adds = record { rows = zero-add _; below = zero-add _; own = zero-add _; total = zero-add _ };
      count = refl;
      few_rows = omega arith;
      few_below = omega arith;
      few_own = omega arith;
      few_total = omega arith;
    }

weigh-most : (b : Bool) (n : ℕ) → weigh b n ≤ n
weigh-most true n = omega arith
weigh-most false n = omega arith

module _ {rows : List (List ℕ)} {wanted : ℕ} {t : Tally} {i low : ℕ} (w : Scanning rows wanted t i low) where
  module _ {r : Taken} (some : i < length rows) (is : as_row r ≡ row_in (get_or rows i [])) where
    pub scanning-on : right_row low (as_row r) ≡ true → r.size < 65536 → Scanning rows wanted (with_row t r.number r.size wanted) (i + 1) (r.number + 1)
    unfolding sum sizes right_from
    scanning-on ok small =
        let more = rows_more rows i some is in
        let a = rw more at w.adds in
        let one = weigh-most (ltb r.number wanted) 1 in
        let size = weigh-most (ltb r.number wanted) r.size in
        let own = weigh-most (eqb r.number wanted) r.size in
        record {
          right = w.right ∙ rw (more, ok);
          adds = record { rows = omega (arith, a.rows); below = omega (arith, a.below); own = omega (arith, a.own); total = omega (arith, a.total) };
          count = w.count;
          few_rows = omega (arith, w.few_rows);
          few_below = omega (arith, w.few_below);
          few_own = omega (arith, w.few_own);
          few_total = omega (arith, w.few_total);
        }

    pub scanning-stops : right_row low (as_row r) ≡ false → None ≡ scanned wanted (map row_in rows)
    unfolding right_from
    scanning-stops fails = rw (w.right, rows_more rows i some is, fails)

  pub scanning-ends : length rows ≤ i → Some t ≡ scanned wanted (map row_in rows)
  unfolding sum sizes right_from
  scanning-ends none =
      let a = rw (rows_none rows i none) at w.adds in
      let count : length (map row_in rows) ≡ t.count = length-map rows row_in ∙ sym w.count in
      rw (w.right, rows_none rows i none, ← a.rows, ← a.below, ← a.own, ← a.total, count) (ap Some (record_is t))
    where
      record_is : (t : Tally) → t ≡ record { count = t.count; rows = t.rows + 0; below = t.below + 0; own = t.own + 0; total = t.total + 0 }
      record_is t = simp add-zero
