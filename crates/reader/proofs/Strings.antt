-- One byte of a pool: a string goes on, ends, or is the one that is sought.
-- Assumes nothing.
use Prim.Native.Nat.{ℕ, ◌+◌, ◌-◌, ◌≤◌, ◌<◌}
use mathlib.Core.Path.{◌≡◌, ap, sym, ◌∙◌}
use mathlib.Core.List.{List, ◌∷◌}
use native.Mathlib.Omega.{arith}
use native.Mathlib.Numerals.{add-one}
use lib.ListN.{length, get_or, drop, drop_of_length-le}
use lib.Seq.{drop-cons}
use Rattle.std.specs.Prelude.{Ok}
use Rattle.layout.specs.Answers.{Located}
use Rattle.layout.specs.Bytes.{part_at}
use Rattle.layout.specs.Calls.{no_string, string_in}
use Rattle.laws.proofs.Strings.{goes, ends, passes}

-- the string that begins at `first`, when byte i of the pool is next
abbrev pub string_from : List ℕ → ℕ → ℕ → ℕ → ℕ → Located
string_from pool place first i left = string_in (drop i pool) (place + first) (i - first) left

module _ (pool : List ℕ) (place first i left : ℕ) (le : first ≤ i) where
  at_byte : i < length pool → drop i pool ≡ get_or pool i 0 ∷ drop (i + 1) pool
  at_byte lt = drop-cons pool i 0 lt ∙ ap (λ (k : ℕ). get_or pool i 0 ∷ drop k pool) (sym (add-one i))

  pub string-goes : i < length pool → get_or pool i 0 < 128 → string_from pool place first i left ≡ string_from pool place first (i + 1) left
  string-goes lt low =
      ap (λ (bs : List ℕ). string_in bs (place + first) (i - first) left) (at_byte lt)
      ∙ goes (get_or pool i 0) (drop (i + 1) pool) (place + first) (i - first) left low
      ∙ ap (λ (n : ℕ). string_in (drop (i + 1) pool) (place + first) n left) (let q : i - first + 1 ≡ i + 1 - first = omega arith in q)

  pub string-ends : i < length pool → 128 ≤ get_or pool i 0 → left ≡ 0 → string_from pool place first i left ≡ Ok (part_at (place + first) (i + 1 - first))
  string-ends lt high z =
      ap (λ (bs : List ℕ). string_in bs (place + first) (i - first) left) (at_byte lt)
      ∙ ends (get_or pool i 0) (drop (i + 1) pool) (place + first) (i - first) left high z
      ∙ ap (λ (n : ℕ). Ok (part_at (place + first) n)) (let q : i - first + 1 ≡ i + 1 - first = omega arith in q)

  pub string-passes : i < length pool → 128 ≤ get_or pool i 0 → 0 < left → string_from pool place first i left ≡ string_from pool place (i + 1) (i + 1) (left - 1)
  string-passes lt high some =
      let here : place + first + (i - first) + 1 ≡ place + (i + 1) = omega arith in
      let none : 0 ≡ i + 1 - (i + 1) = omega arith in
      ap (λ (bs : List ℕ). string_in bs (place + first) (i - first) left) (at_byte lt)
      ∙ passes (get_or pool i 0) (drop (i + 1) pool) (place + first) (i - first) left (left - 1) high (omega arith)
      ∙ ap (λ (p : ℕ). string_in (drop (i + 1) pool) p 0 (left - 1)) here
      ∙ ap (λ (n : ℕ). string_in (drop (i + 1) pool) (place + (i + 1)) n (left - 1)) none

  pub string-over : length pool ≤ i → string_from pool place first i left ≡ no_string
  unfolding string_in
  string-over over = rw (drop_of_length-le pool over)
