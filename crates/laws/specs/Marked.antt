-- Codes that a pass has marked, in a list of 256 numbers: a code is marked where its number is not 0.
-- Assumes nothing.
use Rattle.std.specs.Prelude.{ℕ, List, [], ◌∷◌, Bool, true, not, ◌&&◌, get_or, eqb}

abbrev pub marked : List ℕ → ℕ → Bool
marked marks c = not (eqb (get_or marks c 0) 0)

-- all of these codes are marked
unfoldable pub all_marked : List ℕ → List ℕ → Bool
all_marked [] marks = true
all_marked (c ∷ cs) marks = marked marks c && all_marked cs marks
