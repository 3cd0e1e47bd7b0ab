-- The entries that fields make, field by field.
-- Assumes nothing.
use Prim.Native.Nat.{ℕ, zero, suc, ◌+◌, ◌≤◌, ◌<◌}
use mathlib.Core.Path.{◌≡◌, refl, ap, sym, ◌∙◌}
use mathlib.Core.List.{List, [], ◌∷◌, ◌++◌, append-nil}
use native.Mathlib.Omega.{arith}
use lib.ListN.{length, get_or, take, drop, length-append, take-append-drop}
use lib.Seq.{take_all}
use Rattle.layout.specs.declared.Field.{Field}
use Rattle.layout.specs.Shape.{Shape}
use Rattle.layout.specs.Walk.{Content}
use Rattle.layout.specs.Read.{limit}
use Rattle.layout.specs.Write.{field_at, field_content, fields_in, entry_bytes, entries_bytes}
use Rattle.layout.specs.Each.{none, also}
use Rattle.layout.proofs.Lists.{joined-append}
use Rattle.output.specs.Lengths.{capped}
use Rattle.output.specs.Placing.{over, opening_placed, value_placed}
use Rattle.output.proofs.Lengths.{capped-min}
use Rattle.output.proofs.Overlay.{length_over, over-nil, over-over, copied-over}
use Rattle.output.proofs.Rooms.{entry-copied}
use Rattle.fields.proofs.Lists.{fields-step}
use Rattle.writer.specs.Entries.{field_bytes, fields_bytes, Puttable, AllPuttable}

-- ---- one entry

-- What opens an entry and its value, written side by side, are the entry. The lengths are cut off.
pub entry-put : (S : Shape) (c : Content) (d : List ℕ) (a : ℕ) → Puttable S c → length d ≤ limit → a + length (entry_bytes S c) ≤ length d →
    {key value d₁ d₂ : List ℕ} {k v : ℕ} → key ≡ c.key → value ≡ c.value → k ≡ capped (length (S.opening c.code key)) → d₁ ≡ opening_placed S d a c.code key →
    d₂ ≡ value_placed S d₁ (a + k) c.code value → v ≡ capped (length (S.lens c.code (length value)) + length value) →
    (a + k + v ≡ a + length (entry_bytes S c)) × (d₂ ≡ over d a (entry_bytes S c))
unfolding entry_bytes
entry-put S c d a ok short room {k = k} {v = v} p q e₁ e₂ e₃ e₄ =
    let o : List ℕ = S.opening c.code c.key in
    let l : List ℕ = S.lens c.code (length c.value) in
    let all : length (o ++ (l ++ c.value)) ≡ length o + (length l + length c.value) = simp length-append refl in
    let k-is : k ≡ length o = omega (arith, capped-min (length o), rw p at e₁) in
    let v-is : v ≡ length l + length c.value = omega (arith, capped-min (length l + length c.value), rw q at e₄) in
    let laid = entry-copied S c.code c.key c.value d a short ok room (rw p at e₁) (rw p at e₂) refl (rw q at e₃) in
    (omega arith, laid ∙ copied-over d a (o ++ (l ++ c.value)) room)

-- ---- entry after entry

module _ (S : Shape) (values : List ℕ) where
  bytes-append : (xs ys : List Field) → fields_bytes S values (xs ++ ys) ≡ fields_bytes S values xs ++ fields_bytes S values ys
  unfolding entries_bytes
  bytes-append xs ys = joined-append (fields_bytes S values) (field_bytes S values) refl (λ x xs. refl) xs ys

  bytes_one : (x : Field) → fields_bytes S values (x ∷ []) ≡ field_bytes S values x
  unfolding entries_bytes
  bytes_one x = append-nil (field_bytes S values x)

  -- Each of the fields can be put.
  pub puttable-at : (xs : List Field) (i : ℕ) (d : Field) → AllPuttable S values xs → i < length xs → Puttable S (field_content S values (get_or xs i d))
  puttable-at [] i d none lt = absurd (omega arith)
  puttable-at (x ∷ xs) zero d (also p ps) lt = p
  puttable-at (x ∷ xs) (suc i) d (also p ps) lt = puttable-at xs i d ps (omega arith)

  -- The entries of the first i fields are no longer than those of all.
  bytes-first : (xs : List Field) (i : ℕ) → length (fields_bytes S values (take i xs)) ≤ length (fields_bytes S values xs)
  bytes-first xs i =
      let all = ap (fields_bytes S values) (sym (take-append-drop i xs)) ∙ bytes-append (take i xs) (drop i xs) in
      omega (arith, ap length all, length-append (fields_bytes S values (take i xs)) (fields_bytes S values (drop i xs)))

  -- The entries of the first i + 1 fields are those of the first i, and that of field i.
  bytes-step : (s : List ℕ) (i : ℕ) → i < length (fields_in s) →
      fields_bytes S values (take (i + 1) (fields_in s)) ≡ fields_bytes S values (take i (fields_in s)) ++ field_bytes S values (get_or (fields_in s) i (field_at []))
  bytes-step s i lt =
      let x : Field = get_or (fields_in s) i (field_at []) in
      rw (fields-step s i lt, bytes-append (take i (fields_in s)) (x ∷ []), bytes_one x)

-- ---- a loop

-- The entries of the first i fields are written over d from place a on, and end before `at`.
abbrev pub Putting : (S : Shape) (values s d : List ℕ) (a : ℕ) (out : List ℕ) (at i : ℕ) → Type 0
Putting S values s d a out at i =
    (i ≤ length (fields_in s)) × (at ≡ a + length (fields_bytes S values (take i (fields_in s)))) × (out ≡ over d a (fields_bytes S values (take i (fields_in s))))

module _ (S : Shape) (values s d : List ℕ) (a : ℕ) (le : a + length (fields_bytes S values (fields_in s)) ≤ length d) where
  pub putting-first : Putting S values s d a d a 0
  unfolding entries_bytes
  putting-first = (omega arith, omega arith, sym (over-nil d a))

  module _ (out : List ℕ) (at i : ℕ) (inv : Putting S values s d a out at i) where
    pub putting-length : length out ≡ length d
    putting-length = ap length inv.2 ∙ length_over d a (fields_bytes S values (take i (fields_in s))) (omega (arith, bytes-first S values (fields_in s) i))

    pub putting-room : i < length (fields_in s) → at + length (field_bytes S values (get_or (fields_in s) i (field_at []))) ≤ length out
    putting-room lt =
        let b : List ℕ = fields_bytes S values (take i (fields_in s)) in
        let x : List ℕ = field_bytes S values (get_or (fields_in s) i (field_at [])) in
        omega (arith, putting-length, bytes-first S values (fields_in s) (i + 1), ap length (bytes-step S values s i lt), length-append b x)

    pub putting-on : i < length (fields_in s) → {next : ℕ} {after : List ℕ} →
        next ≡ at + length (field_bytes S values (get_or (fields_in s) i (field_at []))) → after ≡ over out at (field_bytes S values (get_or (fields_in s) i (field_at []))) →
        Putting S values s d a after next (i + 1)
    putting-on lt p q =
        let b : List ℕ = fields_bytes S values (take i (fields_in s)) in
        let x : List ℕ = field_bytes S values (get_or (fields_in s) i (field_at [])) in (
          omega arith,
          rw (bytes-step S values s i lt, length-append b x) (omega arith),
          q ∙ rw (inv.2, bytes-step S values s i lt) (over-over d a b x at (omega arith) inv.1),
        )

    pub putting-done : length (fields_in s) ≤ i → out ≡ over d a (fields_bytes S values (fields_in s))
    putting-done ge = inv.2 ∙ rw (take_all i (fields_in s) ge)
