-- The fields of a row and the count of the head by the bytes of the file, and the rows of a file by eight bytes each.
-- Assumes nothing.
use Prim.Native.Nat.{ℕ, zero, suc, ◌+◌, ◌*◌, ◌-◌, ◌/◌, ◌≤◌}
use mathlib.Core.Path.{◌≡◌, refl, ap, ap₂, sym, ◌∙◌}
use mathlib.Core.List.{List, [], ◌∷◌, ◌++◌, map}
use native.Mathlib.Omega.{arith}
use lib.ListN.{length, get_or, take, drop, length-drop, take-append-drop}
use lib.Seq.{get_or-drop, length-take-le}
use Rattle.std.specs.Int.{w16, w32, from_be_bytes}
use Rattle.std.specs.Simd.{first_chunks}
use Rattle.layout.specs.Bytes.{part, high_first}
use Rattle.rooms.specs.File.{count_in, Row, row_in, rows_in}

two-there : (s : List ℕ) → 2 ≤ length s → from_be_bytes w16 (get_or s 0 0 ∷ get_or s 1 0 ∷ []) ≡ high_first 0 (take 2 s)
unfolding high_first
two-there [] le = absurd (omega arith)
two-there (a ∷ []) le = absurd (omega arith)
two-there (a ∷ b ∷ s) le = omega arith

four-there : (s : List ℕ) → 4 ≤ length s → from_be_bytes w32 (get_or s 0 0 ∷ get_or s 1 0 ∷ get_or s 2 0 ∷ get_or s 3 0 ∷ []) ≡ high_first 0 (take 4 s)
unfolding high_first
four-there [] le = absurd (omega arith)
four-there (a ∷ []) le = absurd (omega arith)
four-there (a ∷ b ∷ []) le = absurd (omega arith)
four-there (a ∷ b ∷ c ∷ []) le = absurd (omega arith)
four-there (a ∷ b ∷ c ∷ d ∷ s) le = omega arith

-- two bytes from a place on
two-from : (s : List ℕ) (at : ℕ) → at + 2 ≤ length s → from_be_bytes w16 (get_or s (at + 0) 0 ∷ get_or s (at + 1) 0 ∷ []) ≡ high_first 0 (part at 2 s)
unfolding part
two-from s at le =
    ap₂ (λ (x y : ℕ). from_be_bytes w16 (x ∷ y ∷ [])) (sym (get_or-drop at s 0 0)) (sym (get_or-drop at s 1 0))
    ∙ two-there (drop at s) (omega (arith, length-drop at s))

-- the count that a head says
pub count-said : (file : List ℕ) → 8 ≤ length file → from_be_bytes w16 (get_or file 4 0 ∷ get_or file 5 0 ∷ []) ≡ count_in file
count-said file le = two-from file 4 (omega arith)

-- the row in eight bytes
pub row-said : (s : List ℕ) → length s ≡ 8 →
    record { number = from_be_bytes w32 (get_or s 0 0 ∷ get_or s 1 0 ∷ get_or s 2 0 ∷ get_or s 3 0 ∷ []); format = get_or s 4 0; zero = get_or s 5 0; size = from_be_bytes w16 (get_or s 6 0 ∷ get_or s 7 0 ∷ []) }
    ≡ row_in s
unfolding row_in
row-said s e =
    let row : ℕ → ℕ → Row = λ n m. record { number = n; format = get_or s 4 0; zero = get_or s 5 0; size = m } in
    ap₂ row (four-there s (omega arith)) (two-from s 6 (omega arith))

-- n rows by eight bytes each, whatever follows them
rows-chunked : (n : ℕ) (s t : List ℕ) → 8 * n ≤ length s → map row_in (first_chunks 8 n s) ≡ rows_in n (s ++ t)
unfolding row_in rows_in part
rows-chunked zero s t le = refl
rows-chunked (suc n) (a ∷ b ∷ c ∷ d ∷ f ∷ z ∷ h ∷ l ∷ s) t le = ap₂ (λ (x : Row) (xs : List Row). x ∷ xs) refl (rows-chunked n s t (omega arith))
rows-chunked (suc n) [] t le = absurd (omega arith)
rows-chunked (suc n) (a ∷ []) t le = absurd (omega arith)
rows-chunked (suc n) (a ∷ b ∷ []) t le = absurd (omega arith)
rows-chunked (suc n) (a ∷ b ∷ c ∷ []) t le = absurd (omega arith)
rows-chunked (suc n) (a ∷ b ∷ c ∷ d ∷ []) t le = absurd (omega arith)
rows-chunked (suc n) (a ∷ b ∷ c ∷ d ∷ f ∷ []) t le = absurd (omega arith)
rows-chunked (suc n) (a ∷ b ∷ c ∷ d ∷ f ∷ z ∷ []) t le = absurd (omega arith)
rows-chunked (suc n) (a ∷ b ∷ c ∷ d ∷ f ∷ z ∷ h ∷ []) t le = absurd (omega arith)

-- the rows of a file, which stand after its head
module _ (file : List ℕ) (n : ℕ) (le : 8 + 8 * n ≤ length file) where
  pub many : length (take (8 + 8 * n - 8) (drop 8 file)) / 8 ≡ n
  many = let l = length-take-le (8 + 8 * n - 8) (drop 8 file) (omega (arith, length-drop 8 file)) in omega (arith, l)

  pub rows-said : {rows : List (List ℕ)} → rows ≡ first_chunks 8 (length (take (8 + 8 * n - 8) (drop 8 file)) / 8) (take (8 + 8 * n - 8) (drop 8 file)) →
      map row_in rows ≡ rows_in n (drop 8 file)
  rows-said e =
      let l = length-take-le (8 + 8 * n - 8) (drop 8 file) (omega (arith, length-drop 8 file)) in
      ap (map row_in) (e ∙ ap (λ (k : ℕ). first_chunks 8 k (take (8 + 8 * n - 8) (drop 8 file))) many)
      ∙ rows-chunked n (take (8 + 8 * n - 8) (drop 8 file)) (drop (8 + 8 * n - 8) (drop 8 file)) (omega (arith, l))
      ∙ ap (rows_in n) (take-append-drop (8 + 8 * n - 8) (drop 8 file))
