-- Words about bytes and places that all definitions use.
-- Assumes nothing.
use Rattle.std.specs.Prelude.{ℕ, ◌+◌, ◌*◌, List, [], ◌∷◌, Bool, true, false, ◌&&◌, take, drop, leb, eqb}
use Rattle.layout.specs.declared.Place.{Place}
use Rattle.layout.specs.declared.StringNumber.{StringNumber}
use Rattle.layout.specs.declared.Part.{Part}
use Rattle.layout.specs.declared.Refusal.{Refusal}

-- a choice by a test; neither side is computed before the test is
abbrev pub if {ℓ} : {A : Type ℓ} → Bool → (Unit {0} → A) → (Unit {0} → A) → A
if true a b = a tt
if false a b = b tt

-- x is one of a to b
abbrev pub between : ℕ → ℕ → ℕ → Bool
between a b x = leb a x && leb x b

-- every byte passes the test
unfoldable pub all : (ℕ → Bool) → List ℕ → Bool
all t [] = true
all t (b ∷ bs) = t b && all t bs

-- the number is in the list
unfoldable pub one_of : List ℕ → ℕ → Bool
one_of [] n = false
one_of (x ∷ xs) n = if (eqb n x) (λ _. true) (λ _. one_of xs n)

-- two lists are the same bytes
unfoldable pub same_bytes : List ℕ → List ℕ → Bool
same_bytes [] [] = true
same_bytes [] (y ∷ ys) = false
same_bytes (x ∷ xs) [] = false
same_bytes (x ∷ xs) (y ∷ ys) = if (eqb x y) (λ _. same_bytes xs ys) (λ _. false)

-- the n bytes of s from place a on
unfoldable pub part : ℕ → ℕ → List ℕ → List ℕ
part a n s = take n (drop a s)

-- bytes as one number, high byte first, after what was read so far
unfoldable pub high_first : ℕ → List ℕ → ℕ
high_first n [] = n
high_first n (b ∷ bs) = high_first (n * 256 + b) bs

abbrev pub place : ℕ → Place
place n = record { 0 = n }

abbrev pub string_number : ℕ → StringNumber
string_number n = record { 0 = n }

abbrev pub part_at : ℕ → ℕ → Part
part_at p n = record { place = place p; len = n }

-- a number of 01's table, at a place
abbrev pub refusal : ℕ → ℕ → Refusal
refusal n p = record { number = n; place = place p }
