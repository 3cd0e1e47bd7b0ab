-- The table law, which carries a table's rule, computed once, to each index.
-- Assumes nothing.
use mathlib.Core.Path.{◌≡◌, ap, ◌∙◌, sym}
use mathlib.Core.List.{List}
use Prim.Native.Nat.{ℕ, zero, suc, ◌+◌, ◌<◌}
use native.Mathlib.Nat.{add-zero, zero-add, add-suc, suc-add, le_of_suc-le-suc, not-suc-le-zero}
use lib.ListN.{get_or}
use Rattle.crc.specs.Table.{rows}

-- The entry at k of a table whose rows begin at i is the function at i + k.
made-from : (f : ℕ → ℕ) (n i k d : ℕ) → k < n → get_or (rows f n i) k d ≡ f (i + k)
unfolding rows
made-from f zero i k d h = absurd (not-suc-le-zero h)
made-from f (suc n) i zero d h = ap f (sym (add-zero i))
made-from f (suc n) i (suc k) d h = made-from f n (suc i) k d (le_of_suc-le-suc h) ∙ ap f (suc-add i k ∙ sym (add-suc i k))

-- The entry at k of a made table is the function at k.
pub made : (f : ℕ → ℕ) (n k : ℕ) → k < n → get_or (rows f n 0) k 0 ≡ f k
made f n k h = made-from f n 0 k 0 h ∙ ap f (zero-add k)

-- A table's rule over all its 256 entries: it is the made one. Of a constant table antt computes it.
abbrev pub Made : (ℕ → ℕ) → List ℕ → Type 0
Made f t = t ≡ rows f 256 0

-- A table's rule, carried to each index, whatever counts for an entry that is not there.
pub made_at : (f : ℕ → ℕ) (t : List ℕ) (k d : ℕ) → k < 256 → Made f t → get_or t k d ≡ f k
made_at f t k d lt is = ap (λ (l : List ℕ). get_or l k d) is ∙ made-from f 256 0 k d lt ∙ ap f (zero-add k)

-- The same of all entries, as `entry` asks for it.
pub each_made : (f : ℕ → ℕ) (t : List ℕ) → Made f t → (k : ℕ) → k < 256 → get_or t k (f k) ≡ f k
each_made f t is k lt = made_at f t k (f k) lt is
