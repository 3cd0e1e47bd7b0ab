-- Bytes of a form, and bytes that others begin with.
-- Assumes nothing.
use Prim.Native.Nat.{ℕ, suc, ◌<◌}
use mathlib.Core.Path.{◌≡◌, refl, sym}
use mathlib.Core.List.{List, [], ◌∷◌}
use mathlib.Core.Bool.{Bool, true, false, ◌&&◌}
use native.Mathlib.Omega.{arith}
use lib.ListN.{length}
use lib.Dec.{eqb}
use lib.Pointwise.{pointwise}
use Rattle.std.proofs.lemmas.Bool.Decides.{nat_tests}
use Rattle.std.proofs.lemmas.List.Folds.{list_all_at}
use Rattle.std.proofs.lemmas.List.Sums.{list_all-from_AllPass}
use Rattle.std.specs.Bool.{MatchBool}
use Rattle.std.specs.List.{zip, list_all, AllWithin, HoldsAt}
use Rattle.layout.specs.Bytes.{if, same_bytes}
use Rattle.layout.specs.Onie.{fits_form, formed}

and-swap : (a b c : Bool) → a && (b && c) ≡ b && (a && c)
and-swap true b c = refl
and-swap false true c = refl
and-swap false false c = refl

test-suc : (m n : ℕ) → eqb (suc m) (suc n) ≡ eqb m n
test-suc m n = grind (arith, nat_tests)

-- as many bytes, and each pair fits
pub formed_pairs : (x v : List ℕ) → formed x v ≡ eqb (length x) (length v) && list_all (λ p. fits_form p.0 p.1) (zip x v)
unfolding formed
formed_pairs [] [] = refl
formed_pairs [] (b ∷ v) = grind (arith, nat_tests)
formed_pairs (a ∷ x) [] = grind (arith, nat_tests)
formed_pairs (a ∷ x) (b ∷ v) = rw (formed_pairs x v, test-suc) (and-swap (fits_form a b) (eqb (length x) (length v)) (list_all (λ p. fits_form p.0 p.1) (zip x v)))

-- a test of each pair, where the answer says of the pairs that all pass it, or that one does not
pub tested : (t : ℕ × ℕ → Bool) (ps : List (ℕ × ℕ)) (r : Bool)
    → MatchBool r (AllWithin (λ p. t p ≡ true) ps 0 (length ps)) ((k : ℕ) × (k < length ps) × HoldsAt (λ p. t p ≡ false) ps k) → r ≡ list_all t ps
tested t ps true h = sym (list_all-from_AllPass t ps (λ k d lt. h k d (omega arith) lt))
tested t ps false (k, lt, h) = sym (list_all_at t ps k (0, 0) lt (h (0, 0)))

and-if : (t a : Bool) → t && a ≡ if t (λ _. a) (λ _. false)
and-if true a = refl
and-if false a = refl

test-turned : (a b : ℕ) → eqb b a ≡ eqb a b
test-turned a b = grind (arith, nat_tests)

-- the same bytes, asked for from the other side
pub same_turned : (x y : List ℕ) → pointwise eqb y x ≡ same_bytes x y
unfolding same_bytes
same_turned [] [] = refl
same_turned [] (b ∷ y) = refl
same_turned (a ∷ x) [] = refl
same_turned (a ∷ x) (b ∷ y) = rw (test-turned a b, same_turned x y) (and-if (eqb a b) (same_bytes x y))
