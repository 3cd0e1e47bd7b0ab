-- The entry that stands at a place, and where the next one stands.
-- Assumes nothing.
use Rattle.std.specs.Prelude.{ℕ, ◌+◌, ◌-◌, List, Bool, take, Ok, Err, Some, None}
use Rattle.layout.specs.Answers.{Next}
use Rattle.layout.specs.Bytes.{part}
use Rattle.layout.specs.Shape.{Shape, next}
use Rattle.layout.specs.Calls.{entry_of}
use Rattle.reader.specs.Answers.{Here}

-- by what stands at the front of s, which begins at p
abbrev pub here_by : Next → Shape → ℕ → ℕ → List ℕ → Here
here_by (Ok (Some f)) S e p s =
    Some (record { entry = entry_of S e p (record { bytes = take f.size s; frame = f }); next = p + f.size; shut = S.last f.code })
here_by (Ok None) S e p s = None
here_by (Err n) S e p s = None

-- the entry at p, in a room that ends before `end`
unfoldable pub here_at : Shape → ℕ → List ℕ → Bool → ℕ → ℕ → Here
here_at S e image shut p end = here_by (next S shut (part p (end - p) image)) S e p (part p (end - p) image)
