-- Of a value that is bytes, every number of its reading fits a word.
-- Assumes nothing.
use Prim.Native.Nat.{ℕ, zero, suc, ◌+◌, ◌*◌, ◌/◌, ◌%◌, ◌≤◌, ◌<◌}
use mathlib.Core.List.{List, [], ◌∷◌}
use native.Mathlib.Omega.{arith}
use lib.ListN.{length, get_or, take, drop}
use lib.Dec.{eqb}
use Rattle.layout.specs.declared.Format.{Format}
use Rattle.layout.specs.declared.Format.TheVariants.{Fboss, Vpd, Tiny, Onie}
use Rattle.layout.specs.declared.Reading.{Reading}
use Rattle.layout.specs.declared.Reading.TheVariants.{Addresses}
use Rattle.layout.specs.Bytes.{between, part, high_first}
use Rattle.layout.specs.Calendar.{two_digits, four_digits}
use Rattle.layout.specs.Fboss.{fboss, fboss_reading}
use Rattle.layout.specs.Vpd.{vpd}
use Rattle.layout.specs.Tiny.{tiny, tiny_reading, batch, passed}
use Rattle.layout.specs.Onie.{onie, onie_reading}
use Rattle.layout.specs.Editions.{shape}
use Rattle.layout.specs.Calls.{told_reading}
use Rattle.layout.specs.Each.{Each, none, also}
use Rattle.layout.proofs.Choices.{either}
use Rattle.laws.proofs.Passes.{part-most}

abbrev pub Bytes : List ℕ → Type 0
Bytes = Each (λ b. b < 256)

abbrev pub Words : List ℕ → Type 0
Words = Each (λ w. w < 4294967296)

-- ---- parts of a list

module _ {P : ℕ → Type 0} where
  pub each_take : (n : ℕ) (xs : List ℕ) → Each P xs → Each P (take n xs)
  each_take zero xs ps = none
  each_take (suc n) [] none = none
  each_take (suc n) (x ∷ xs) (also p ps) = also p (each_take n xs ps)

  each-drop : (n : ℕ) (xs : List ℕ) → Each P xs → Each P (drop n xs)
  each-drop zero xs ps = ps
  each-drop (suc n) [] none = none
  each-drop (suc n) (x ∷ xs) (also p ps) = each-drop n xs ps

  pub each_part : (a n : ℕ) (xs : List ℕ) → Each P xs → Each P (part a n xs)
  unfolding part
  each_part a n xs ps = each_take n (drop a xs) (each-drop a xs ps)

pub byte_of : (xs : List ℕ) (i : ℕ) → Bytes xs → get_or xs i 0 < 256
byte_of [] i none = omega arith
byte_of (x ∷ xs) zero (also p ps) = p
byte_of (x ∷ xs) (suc i) (also p ps) = byte_of xs i ps

-- ---- numbers of several bytes

-- a bound after k bytes more
abbrev grown : ℕ → ℕ → ℕ
grown zero m = m
grown (suc k) m = grown k (m * 256)

grown-more : (k m : ℕ) → m ≤ grown k m
grown-more zero m = omega arith
grown-more (suc k) m = let rest = grown-more k (m * 256) in omega arith

high-below : (k n m : ℕ) (bs : List ℕ) → Bytes bs → length bs ≤ k → n < m → high_first n bs < grown k m
unfolding high_first
high-below k n m [] none le lt = omega (arith, grown-more k m)
high-below zero n m (b ∷ bs) (also p ps) le lt = absurd (omega arith)
high-below (suc k) n m (b ∷ bs) (also p ps) le lt = high-below k (n * 256 + b) (m * 256) bs ps (omega arith) (omega arith)

-- the number of k bytes of a value
number-below : (a k : ℕ) (v : List ℕ) → Bytes v → high_first 0 (part a k v) < grown k 1
number-below a k v ps = high-below k 0 1 (part a k v) (each_part a k v ps) (part-most v a k) (omega arith)

-- ---- readings

abbrev ReadingWords : Reading → Type 0
ReadingWords r = Words (told_reading r)

-- one word more
pub then : (w : ℕ) {ws : List ℕ} → w < 4294967296 → Words ws → Words (w ∷ ws)
then w p ps = also p ps

addresses-words : (base count : ℕ) → base < 281474976710656 → count < 65536 → ReadingWords (Addresses base count)
unfolding told_reading
addresses-words base count b c =
    then 3 (omega arith) (then (base / 4294967296) (omega arith) (then (base % 4294967296) (omega arith) (then count (omega arith) none)))

-- six bytes of an identity, and what comes after them
identity-words : (k : ℕ) (v rest : List ℕ) → k < 8 → Bytes v → Words rest →
    Words (k ∷ get_or v 0 0 ∷ get_or v 1 0 ∷ get_or v 2 0 ∷ get_or v 3 0 ∷ get_or v 4 0 ∷ get_or v 5 0 ∷ rest)
identity-words k v rest lt ps ws = then k (omega arith) (byte 0 (byte 1 (byte 2 (byte 3 (byte 4 (byte 5 ws))))))
  where
    byte : (i : ℕ) {ws : List ℕ} → Words ws → Words (get_or v i 0 ∷ ws)
    byte i ws = then (get_or v i 0) (omega (arith, byte_of v i ps)) ws

-- what two digits of a value show, and four
digits-below : (v : List ℕ) (i : ℕ) → Bytes v → two_digits i v < 2278
digits-below v i ps = omega (arith, byte_of v i ps, byte_of v (i + 1) ps)

year-below : (v : List ℕ) (i : ℕ) → Bytes v → four_digits i v < 230078
year-below v i ps = let high = digits-below v i ps in let low = digits-below v (i + 2) ps in omega (arith, high, low)

-- a date, and what comes after it
date-words : (k : ℕ) (v rest : List ℕ) (y m d : ℕ) → k < 10 → Bytes v → Words rest → Words (k ∷ four_digits y v ∷ two_digits m v ∷ two_digits d v ∷ rest)
date-words k v rest y m d lt ps ws =
    then k (omega arith)
    (then (four_digits y v) (omega (arith, year-below v y ps))
    (then (two_digits m v) (omega (arith, digits-below v m ps)) (then (two_digits d v) (omega (arith, digits-below v d ps)) ws)))

time-words : (v : List ℕ) (h m s : ℕ) → Bytes v → Words (two_digits h v ∷ two_digits m v ∷ two_digits s v ∷ [])
time-words v h m s ps =
    then (two_digits h v) (omega (arith, digits-below v h ps))
    (then (two_digits m v) (omega (arith, digits-below v m ps)) (then (two_digits s v) (omega (arith, digits-below v s ps)) none))

pub reading-words : (f : Format) (c : ℕ) (v : List ℕ) → Bytes v → ReadingWords ((shape f).reading c v)
unfolding fboss vpd tiny onie fboss_reading tiny_reading onie_reading told_reading
reading-words Fboss c v ps =
    either ReadingWords (between 8 10 c) (λ _. then 2 (omega arith) (then (get_or v 0 0) (omega (arith, byte_of v 0 ps)) none))
    (λ _. either ReadingWords (between 17 20 c)
    (λ _. addresses-words (high_first 0 (part 0 6 v)) (high_first 0 (part 6 2 v)) (number-below 0 6 v ps) (number-below 6 2 v ps))
    (λ _. either ReadingWords (eqb c 13) (λ _. date-words 8 v [] 0 4 6 (omega arith) ps none) (λ _. then 1 (omega arith) none)))
reading-words Vpd c v ps = then 0 (omega arith) none
reading-words Tiny c v ps =
    either ReadingWords (eqb c 0x10) (λ _. then 4 (omega arith) (then (get_or v 0 0) (omega (arith, byte_of v 0 ps)) none))
    (λ _. either ReadingWords (eqb c 0x11)
    (λ _. then 5 (omega arith) (then (get_or v 0 0) (omega (arith, byte_of v 0 ps)) (then (passed (get_or v 0 0)) (omega arith) none)))
    (λ _. either ReadingWords (eqb c 0x60) (λ _. addresses-words (high_first 0 (part 0 6 v)) 1 (number-below 0 6 v ps) (omega arith))
    (λ _. either ReadingWords (between 0x61 0x62 c) (λ _. identity-words 6 v [] (omega arith) ps none)
    (λ _. either ReadingWords (between 0x80 0x81 c)
    (λ _. identity-words 7 v (batch v ∷ []) (omega arith) ps (then (batch v) (omega (arith, byte_of v 6 ps, byte_of v 7 ps)) none))
    (λ _. then 0 (omega arith) none)))))
reading-words Onie c v ps =
    either ReadingWords (eqb c 0x24) (λ _. addresses-words (high_first 0 (part 0 6 v)) 1 (number-below 0 6 v ps) (omega arith))
    (λ _. either ReadingWords (eqb c 0x2A) (λ _. then 2 (omega arith) (then (high_first 0 (part 0 2 v)) (omega (arith, number-below 0 2 v ps)) none))
    (λ _. either ReadingWords (eqb c 0xFD) (λ _. then 0 (omega arith) none)
    (λ _. either ReadingWords (eqb c 0x25) (λ _. date-words 9 v _ 6 0 3 (omega arith) ps (time-words v 11 14 17 ps)) (λ _. then 1 (omega arith) none))))
