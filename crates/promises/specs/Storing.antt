-- What a file that keeps accepted images may rely on (02, "Machine-room file"): a format's number is one byte, and an accepted image has at least one byte.
-- Assumes nothing.
use Rattle.std.specs.Prelude.{ℕ, ◌≤◌, ◌<◌, List, length}
use Rattle.promises.specs.Words.{Counts, tells_check}

pub record Storing : Type 0 where
  pub format : (f e : ℕ) (image : List ℕ) (n : ℕ) → Counts (tells_check f e image) n → f < 256
  pub bytes : (f e : ℕ) (image : List ℕ) (n : ℕ) → Counts (tells_check f e image) n → 1 ≤ length image
