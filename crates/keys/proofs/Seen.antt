-- The filter of a pass over entries: one that it does not know was not seen.
-- Assumes nothing.
use Prim.Native.Nat.{ℕ}
use mathlib.Core.Path.{◌≡◌, refl, sym, ◌∙◌}
use mathlib.Core.List.{List, [], ◌∷◌, ◌++◌}
use mathlib.Core.Bool.{Bool, true, false, ◌&&◌}
use native.Mathlib.Omega.{arith}
use lib.Dec.{eqb}
use lib.ListN.{length}
use borrow.Author.Tests.{eqb-true, eqb-false, eq-eqb, ne_eqb}
use Rattle.layout.specs.declared.Format.TheVariants.{Vpd}
use Rattle.layout.specs.Bytes.{if, same_bytes}
use Rattle.layout.specs.Shape.{Shape, Label}
use Rattle.layout.specs.Vpd.{vpd, vpd_twice}
use Rattle.layout.specs.Editions.{shape}
use Rattle.layout.specs.Read.{same, seen_before}
use Rattle.layout.proofs.Lists.{same_true}
use Rattle.keys.specs.Filter.{may_know, noted, may_repeat, with_key}
use Rattle.keys.proofs.Knowing.{noted-length, noted-known, known-stays}

-- whether an entry of code 01h with this key was seen
abbrev pub key_seen : List Label → List ℕ → Bool
key_seen seen key = seen_before (shape Vpd) seen (record { code = 1; key = key })

-- the filter knows the keys of all entries of code 01h that were seen
pub record Knows (seen : List Label) (words : List ℕ) : Type 0 where
  pub known : (key : List ℕ) → key_seen seen key ≡ true → may_know words key ≡ true

-- at first there are none, whatever the filter
pub none-known : (words : List ℕ) → Knows [] words
unfolding seen_before
none-known words = record { known = λ key s. (let z : ◌≡◌ {A = ℕ} 0 1 = cc in absurd (omega arith)) }

seen-snoc : (S : Shape) (seen : List Label) (a b : Label) → seen_before S (seen ++ (b ∷ [])) a ≡ if (same S a b) (λ _. true) (λ _. seen_before S seen a)
unfolding seen_before
seen-snoc S [] a b = refl
seen-snoc S (x ∷ xs) a b = go (same S a x) (same S a b) (seen-snoc S xs a b)
  where
    go : (s t : Bool) → seen_before S (xs ++ (b ∷ [])) a ≡ if t (λ _. true) (λ _. seen_before S xs a) →
        if s (λ _. true) (λ _. seen_before S (xs ++ (b ∷ [])) a) ≡ if t (λ _. true) (λ _. if s (λ _. true) (λ _. seen_before S xs a))
    go true true h = refl
    go true false h = refl
    go false true h = h
    go false false h = h

-- the first of those seen is looked at
pub key-cons : (b : Label) (seen : List Label) (key : List ℕ) → key_seen (b ∷ seen) key ≡ if (eqb 1 b.code && same_bytes key b.key) (λ _. true) (λ _. key_seen seen key)
unfolding seen_before vpd vpd_twice
key-cons b seen key = refl

key-snoc : (seen : List Label) (b : Label) (key : List ℕ) → key_seen (seen ++ (b ∷ [])) key ≡ if (eqb 1 b.code && same_bytes key b.key) (λ _. true) (λ _. key_seen seen key)
unfolding vpd vpd_twice
key-snoc seen b key = seen-snoc (shape Vpd) seen (record { code = 1; key = key }) b

-- one more entry is passed
pub one_known : (seen : List Label) (words : List ℕ) (b : Label) → Knows seen words → Knows (seen ++ (b ∷ [])) (with_key words b.code b.key)
unfolding with_key
one_known seen words b w = record { known = λ key s. go key (eqb 1 b.code) (same_bytes key b.key) refl refl (sym (key-snoc seen b key) ∙ s) }
  where
    go : (key : List ℕ) (c k : Bool) → eqb 1 b.code ≡ c → same_bytes key b.key ≡ k → if (eqb 1 b.code && same_bytes key b.key) (λ _. true) (λ _. key_seen seen key) ≡ true →
        may_know (if (eqb b.code 1) (λ _. noted words b.key) (λ _. words)) key ≡ true
    go key true true c k s = rw (eq-eqb b.code 1 (sym (eqb-true 1 b.code c)), same_true key b.key k) (noted-known words b.key)
    go key true false c k s = rw (eq-eqb b.code 1 (sym (eqb-true 1 b.code c))) (known-stays words b.key key (w.known key (rw (c, k) at s)))
    go key false k c _ s = rw (ne_eqb b.code 1 (λ e. eqb-false 1 b.code c (sym e))) (w.known key (rw c at s))

-- an entry of code 01h whose key the filter does not know was not seen
pub unknown-unseen : (seen : List Label) (words : List ℕ) (code : ℕ) (key : List ℕ) → Knows seen words → may_repeat words code key ≡ false → key_seen seen key ≡ false
unfolding may_repeat
unknown-unseen seen words code key w no_key = go (eqb code 1) (key_seen seen key) refl refl
  where
    go : (c s : Bool) → eqb code 1 ≡ c → key_seen seen key ≡ s → s ≡ false
    go c false e q = refl
    go true true e q = sym (w.known key q) ∙ (rw e at no_key)
    go false true e q = rw e at no_key

-- the filter keeps its length
pub kept-length : (words : List ℕ) (code : ℕ) (key : List ℕ) → length (with_key words code key) ≡ length words
unfolding with_key
kept-length words code key = go (eqb code 1)
  where
    go : (b : Bool) → length (if b (λ _. noted words key) (λ _. words)) ≡ length words
    go true = noted-length words key
    go false = refl
