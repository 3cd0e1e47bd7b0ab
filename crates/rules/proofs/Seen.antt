-- Whether one of the first n fields has code 01h and a key, as the loop over them looks for it; and what comes a second time by its code alone.
-- Assumes nothing.
use Prim.Native.Nat.{ℕ, suc, ◌+◌, ◌≤◌, ◌<◌}
use mathlib.Core.Path.{◌≡◌, refl, ap, sym, ◌∙◌}
use mathlib.Core.List.{List, []}
use mathlib.Core.Bool.{Bool, true, false, ◌&&◌}
use native.Mathlib.Omega.{arith}
use borrow.Author.Tests.{eq-eqb, ne_eqb}
use native.Mathlib.Numerals.{add-one}
use lib.ListN.{length, get_or, take, drop, drop_of_length-le}
use lib.Seq.{drop-cons, get_or-take, length-take-le}
use lib.Dec.{eqb}
use Rattle.layout.specs.declared.Field.{Field}
use Rattle.layout.specs.declared.Format.{Format}
use Rattle.layout.specs.declared.Format.TheVariants.{Fboss, Vpd, Tiny, Onie}
use Rattle.layout.specs.Bytes.{if, same_bytes}
use Rattle.layout.specs.Editions.{shape}
use Rattle.layout.specs.Read.{seen_before}
use Rattle.layout.specs.Walk.{label_of}
use Rattle.layout.specs.Write.{field_at, field_key, field_content}
use Rattle.laws.proofs.Seen.{AlwaysTwice, fboss-always, tiny-always}
use Rattle.keys.proofs.Seen.{key-cons}
use Rattle.rules.specs.Fields.{field_labels}

-- a field of code 01h with this key is among these
abbrev pub key_seen : List ℕ → List ℕ → List Field → Bool
key_seen values key xs = seen_before (shape Vpd) (field_labels (shape Vpd) values xs) (record { code = 1; key = key })

-- a field has code 01h and this key
abbrev pub key_has : List ℕ → List ℕ → Field → Bool
key_has values key x = eqb 1 x.code && same_bytes key (field_key (shape Vpd).keyed x values)

-- a field of this code has the key or not
pub has-key : (values key : List ℕ) (x : Field) → x.code ≡ 1 → {other : List ℕ} → other ≡ field_key (shape Vpd).keyed x values →
    {b s : Bool} → s ≡ same_bytes key other → s ≡ b → key_has values key x ≡ b
has-key values key x n o q h = rw (eq-eqb 1 x.code (sym n), ← o, ← q) h

-- a field of another code does not
pub has-not : (values key : List ℕ) (x : Field) → (x.code ≡ 1 → ⊥) → key_has values key x ≡ false
has-not values key x n = rw (ne_eqb 1 x.code (λ p. n (sym p)))

-- the loop over the first n fields stands at i: what it looks for is looked for among those from i on
pub Looking : (values key : List ℕ) (xs : List Field) (n i : ℕ) → Type 0
Looking values key xs n i = key_seen values key (take n xs) ≡ key_seen values key (drop i (take n xs))

pub look-first : (values key : List ℕ) (xs : List Field) (n : ℕ) → Looking values key xs n 0
unfolding Looking
look-first values key xs n = refl

module _ (values key : List ℕ) (xs : List Field) (n i : ℕ) (le : n ≤ length xs) (w : Looking values key xs n i) where
  looked : i < n → key_seen values key (take n xs) ≡ if (key_has values key (get_or xs i (field_at []))) (λ _. true) (λ _. key_seen values key (drop (suc i) (take n xs)))
  unfolding Looking
  looked lt =
      w ∙ ap (key_seen values key) (drop-cons (take n xs) i (field_at []) (rw (length-take-le n xs le) lt))
      ∙ rw (get_or-take n xs i (field_at []) lt) (key-cons (label_of (field_content (shape Vpd) values (get_or xs i (field_at [])))) (field_labels (shape Vpd) values (drop (suc i) (take n xs))) key)

  -- the key is there
  pub look_hit : i < n → key_has values key (get_or xs i (field_at [])) ≡ true → key_seen values key (take n xs) ≡ true
  look_hit lt t = looked lt ∙ rw t

  -- it is not, and the loop goes on
  pub look-on : i < n → key_has values key (get_or xs i (field_at [])) ≡ false → Looking values key xs n (i + 1)
  unfolding Looking
  look-on lt t = rw (add-one i) (looked lt ∙ rw t)

  -- nothing is left
  pub look-over : n ≤ i → key_seen values key (take n xs) ≡ false
  unfolding Looking seen_before
  look-over ge = w ∙ ap (key_seen values key) (drop_of_length-le (take n xs) {i = i} (omega (arith, length-take-le n xs le)))

-- outside VPD and ONIE two entries of one code always come twice
pub plain-always : (f : Format) (code : ℕ) → (f ≡ Vpd → ⊥) → (f ≡ Onie → ⊥) → AlwaysTwice f code
plain-always Fboss code v o = fboss-always code
plain-always Vpd code v o = absurd (v refl)
plain-always Tiny code v o = tiny-always code
plain-always Onie code v o = absurd (o refl)
