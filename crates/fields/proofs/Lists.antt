-- The fields of lent bytes: how many there are, and which is field i.
-- Assumes nothing.
use Prim.Native.Nat.{ℕ, zero, suc, ◌+◌, ◌*◌, ◌-◌, ◌/◌, ◌≤◌, ◌<◌}
use mathlib.Core.Path.{◌≡◌, refl, ◌∙◌}
use mathlib.Core.List.{List, [], ◌∷◌, ◌++◌}
use mathlib.Core.Bool.{Bool, true, false}
use native.Mathlib.Nat.{add_assoc, add-zero}
use native.Mathlib.Numerals.{add-one}
use native.Mathlib.Omega.{arith}
use borrow.Author.Tests.{ltb-true, ltb-false, lt-ltb, le-ltb}
use lib.ListN.{length, get_or, take, drop, length-drop, get_or-eq_default}
use lib.Seq.{get_or-drop, drop-drop, take-suc}
use lib.Dec.{ltb}
use Rattle.layout.specs.Bytes.{part_at}
use Rattle.layout.specs.Write.{word, field_at, items, fields_in}

-- A field's numbers, by their places in the list.
pub field-words : (n : ℕ) (s : List ℕ) →
    field_at (drop n s) ≡ record { code = word n s; key = part_at (word (n + 4) s) (word (n + 4 + 4) s); value = part_at (word (n + 12) s) (word (n + 12 + 4) s) }
field-words n s = simp (get_or-drop, add_assoc, add-zero)

-- ---- items of so many bytes each, with enough fuel

module _ {A : Type 0} (size : ℕ) (read : List ℕ → A) where
  pub items-none : (n : ℕ) (s : List ℕ) → length s < size → items size read n s ≡ []
  unfolding items
  items-none zero s lt = refl
  items-none (suc n) s lt = rw (lt-ltb (length s) size lt)

  pub items_more : (n : ℕ) (s : List ℕ) → size ≤ length s → items size read (suc n) s ≡ read s ∷ items size read n (drop size s)
  unfolding items
  items_more n s le = rw (le-ltb (length s) size le)

length_fields : (n : ℕ) (s : List ℕ) → length s ≤ n → length (items 20 field_at n s) ≡ length s / 20
length_fields zero s le = rw (items-none 20 field_at zero s (omega arith)) (omega arith)
length_fields (suc n) s le = go (ltb (length s) 20) refl (length_fields n (drop 20 s))
  where
    go : (t : Bool) → ltb (length s) 20 ≡ t → (length (drop 20 s) ≤ n → length (items 20 field_at n (drop 20 s)) ≡ length (drop 20 s) / 20) → length (items 20 field_at (suc n) s) ≡ length s / 20
    go true e rest = rw (items-none 20 field_at (suc n) s (ltb-true (length s) 20 e)) (omega (arith, ltb-true (length s) 20 e))
    go false e rest =
        let h : 20 ≤ length s = ltb-false (length s) 20 e in
        let l : length (drop 20 s) ≡ length s - 20 = length-drop 20 s in
        rw (items_more 20 field_at n s h) (omega (arith, rest (omega arith)))

field_of : (n : ℕ) (s : List ℕ) (i : ℕ) → length s ≤ n → i * 20 + 20 ≤ length s → get_or (items 20 field_at n s) i (field_at []) ≡ field_at (drop (i * 20) s)
field_of zero s i le lt = absurd (omega arith)
field_of (suc n) s zero le lt = rw (items_more 20 field_at n s (omega arith))
field_of (suc n) s (suc i) le lt =
    let l : length (drop 20 s) ≡ length s - 20 = length-drop 20 s in
    let k : 20 + i * 20 ≡ suc i * 20 = omega arith in
    rw (items_more 20 field_at n s (omega arith)) (field_of n (drop 20 s) i (omega arith) (omega arith) ∙ rw (drop-drop (i * 20) 20 s, k))

-- ---- all fields

module _ (s : List ℕ) where
  pub how-many : length (fields_in s) ≡ length s / 20
  unfolding fields_in
  how-many = length_fields (length s) s (omega arith)

  pub field-there : (i : ℕ) → i < length s / 20 → get_or (fields_in s) i (field_at []) ≡ field_at (drop (i * 20) s)
  unfolding fields_in
  field-there i lt = field_of (length s) s i (omega arith) (omega arith)

  pub field-not : (i : ℕ) → length s / 20 ≤ i → get_or (fields_in s) i (field_at []) ≡ field_at []
  field-not i le = get_or-eq_default (fields_in s) (field_at []) (omega (arith, how-many))

  -- The first i + 1 fields are the first i and field i.
  pub fields-step : (i : ℕ) → i < length (fields_in s) → take (i + 1) (fields_in s) ≡ take i (fields_in s) ++ (get_or (fields_in s) i (field_at []) ∷ [])
  fields-step i lt = rw add-one (take-suc (fields_in s) i (field_at []) lt)
