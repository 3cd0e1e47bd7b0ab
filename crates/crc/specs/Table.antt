-- The table that a function makes.
-- Assumes nothing.
use Rattle.std.specs.Prelude.{List, [], ◌∷◌, ℕ, zero, suc}

-- n rows from i on: f at i, and at the n - 1 numbers after it (01, FBOSS v5: one remainder for each top byte).
unfoldable pub rows : (ℕ → ℕ) → (n i : ℕ) → List ℕ
rows f zero i = []
rows f (suc n) i = f i ∷ rows f n (suc i)
