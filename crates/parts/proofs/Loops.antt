-- Bytes that are tested, compared and taken in: what a chain and a comparison give, and of a loop its invariant, one turn, and how it ends.
-- Assumes nothing.
use Prim.Native.Nat.{ℕ, suc, ◌+◌, ◌*◌, ◌^◌, ◌≤◌, ◌<◌}
use mathlib.Core.Path.{◌≡◌, refl, sym, ap, ◌∙◌}
use mathlib.Core.List.{List, [], ◌∷◌}
use mathlib.Core.Bool.{Bool, true, false, ◌&&◌}
use lib.Pointwise.{pointwise}
use Rattle.std.specs.List.{list_all}
use native.Mathlib.Nat.{pow-suc, pow-le-pow_right}
use native.Mathlib.Numerals.{add-one}
use native.Mathlib.Omega.{arith}
use lib.ListN.{length, get_or, drop, drop_of_length-le}
use lib.Seq.{drop-cons}
use lib.Dec.{eqb}
use Rattle.layout.specs.Bytes.{if, all, same_bytes, high_first}

-- A chain that tests each byte answers as the definition does.
pub all_listed : (t : ℕ → Bool) (v : List ℕ) → list_all t v ≡ all t v
unfolding all
all_listed t [] = refl
all_listed t (b ∷ bs) = ap (λ (r : Bool). t b && r) (all_listed t bs)

-- So does a comparison of two slices.
pub same_listed : (x y : List ℕ) → pointwise eqb x y ≡ same_bytes x y
unfolding same_bytes
same_listed [] [] = refl
same_listed [] (b ∷ y) = refl
same_listed (a ∷ x) [] = refl
same_listed (a ∷ x) (b ∷ y) = go (eqb a b) (same_listed x y)
  where
    go : (t : Bool) {p q : Bool} → p ≡ q → (t && p) ≡ if t (λ _. q) (λ _. false)
    go true e = e
    go false e = refl

-- A choice between two sides that are false is false.
or_else : (t : Bool) {a : Bool} → false ≡ a → false ≡ if t (λ _. a) (λ _. false)
or_else true e = e
or_else false e = refl

-- a question about two lists: they have one length, and each pair of bytes passes the test
pub record Pairs (t : ℕ → ℕ → Bool) (z : List ℕ → List ℕ → Bool) : Type 0 where
  pub none : true ≡ z [] []
  pub fewer : (b : ℕ) (y : List ℕ) → false ≡ z [] (b ∷ y)
  pub more : (a : ℕ) (x : List ℕ) → false ≡ z (a ∷ x) []
  pub pair : (a b : ℕ) (x y : List ℕ) → z (a ∷ x) (b ∷ y) ≡ if (t a b) (λ _. z x y) (λ _. false)

-- the same bytes: each byte is equal to its partner
pub same-pairs : Pairs eqb same_bytes
unfolding same_bytes
same-pairs = record { none = refl; fewer = λ b y. refl; more = λ a x. refl; pair = λ a b x y. refl }

-- A loop that compares lists of one length: whether they pass is whether they do from i on.
abbrev pub Matching : (List ℕ → List ℕ → Bool) → List ℕ → List ℕ → ℕ → Type 0
Matching z x y i = (i ≤ length x) × (length x ≡ length y) × (z x y ≡ z (drop i x) (drop i y))

module _ {t : ℕ → ℕ → Bool} {z : List ℕ → List ℕ → Bool} (P : Pairs t z) where
  -- Lists of unequal lengths do not pass.
  pub unlike : (x y : List ℕ) → (length x ≡ length y → ⊥) → false ≡ z x y
  unlike [] [] n = absurd (n refl)
  unlike [] (b ∷ y) n = P.fewer b y
  unlike (a ∷ x) [] n = P.more a x
  unlike (a ∷ x) (b ∷ y) n = or_else (t a b) (unlike x y (λ e. n (ap suc e))) ∙ sym (P.pair a b x y)

  module _ (x y : List ℕ) (i : ℕ) (inv : Matching z x y i) where
    -- what is left begins with this pair
    left : i < length x → z x y ≡ if (t (get_or x i 0) (get_or y i 0)) (λ _. z (drop (suc i) x) (drop (suc i) y)) (λ _. false)
    left lt =
        let l : i < length y = omega arith in
        inv.2 ∙ rw (drop-cons x i 0, drop-cons y i 0) (P.pair (get_or x i 0) (get_or y i 0) (drop (suc i) x) (drop (suc i) y))

    pub matches : i < length x → t (get_or x i 0) (get_or y i 0) ≡ true → Matching z x y (i + 1)
    matches lt e = (omega arith, inv.1, rw e at (left lt) ∙ rw add-one)

    pub differs : i < length x → t (get_or x i 0) (get_or y i 0) ≡ false → false ≡ z x y
    differs lt e = sym (rw e at (left lt))

    pub matched : length x ≤ i → true ≡ z x y
    matched le =
        let l : length y ≤ i = omega arith in
        P.none ∙ sym (inv.2 ∙ rw (drop_of_length-le x le, drop_of_length-le y l))

-- A loop that takes bytes into a number, k of them so far: with those that are left it is the whole number, and it is below 256 for each byte taken.
abbrev pub Taking : List ℕ → (r k : ℕ) → Type 0
Taking bytes r k = (r < 256 ^ k) × (high_first 0 bytes ≡ high_first r (drop k bytes))

module _ (bytes : List ℕ) (r k : ℕ) (inv : Taking bytes r k) where
  -- Fewer than six are taken.
  pub small : length bytes ≤ 6 → k < length bytes → r < 256 ^ 5
  small six lt = omega (arith, inv.0, pow-le-pow_right {n = 256} (omega arith) {i = k} {j = 5} (omega arith))

  pub takes : (b : ℕ) → (k < length bytes) × (b ≡ get_or bytes k b) → b < 256 → Taking bytes (r * 256 + b) (k + 1)
  unfolding high_first
  takes b next small =
      let lt : k < length bytes = next.0 in
      let rest : drop k bytes ≡ b ∷ drop (k + 1) bytes = drop-cons bytes k b lt ∙ rw (← next.1, add-one) in
      (rw (add-one, pow-suc) (omega arith), inv.1 ∙ rw rest)

  -- None is left.
  pub taken : (n : ℕ) → length bytes ≤ n → k ≡ length bytes → (r ≡ high_first 0 bytes) × (r < 256 ^ n)
  unfolding high_first
  taken n le whole =
      let none : drop k bytes ≡ [] = drop_of_length-le bytes (omega arith) in
      (sym (inv.1 ∙ rw none), omega (arith, inv.0, pow-le-pow_right {n = 256} (omega arith) {i = k} {j = n} (omega arith)))
