-- What records say of an image, and what an edit, an addition and a removal make of that.
-- Assumes nothing.
use Rattle.std.specs.Prelude.{ℕ, zero, suc, ◌+◌, ◌≤◌, ◌<◌, ◌≡◌, List, [], ◌∷◌}
use Rattle.layout.specs.declared.Entry.{Entry}
use Rattle.layout.specs.Bytes.{part}
use Rattle.layout.specs.Walk.{Content}

-- a record's code, and the image's bytes at the record's places, of the record's lengths
unfoldable pub said : List ℕ → Entry → Content
said image x =
    record {
      code = x.code;
      key = part x.key.place.0 x.key.len image;
      value = part x.value.place.0 x.value.len image;
    }

-- records that tile the bytes from p to q: each stands where the one before it ends by that one's own length, its key before its value, and its value at its end
abbrev pub Tiles : ℕ → List Entry → ℕ → Type 0
Tiles p [] q = p ≡ q
Tiles p (x ∷ xs) q =
    (x.place.0 ≡ p) × (p < x.key.place.0) × (x.key.place.0 + x.key.len ≤ x.value.place.0)
    × (x.value.place.0 + x.value.len ≡ p + x.size) × Tiles (p + x.size) xs q

-- an entry with another value
abbrev pub valued : Content → List ℕ → Content
valued c v = record { code = c.code; key = c.key; value = v }

-- entries with another value for entry i
unfoldable pub replaced : List Content → ℕ → List ℕ → List Content
replaced [] i v = []
replaced (c ∷ cs) zero v = valued c v ∷ cs
replaced (c ∷ cs) (suc i) v = c ∷ replaced cs i v

-- entries without entry i
unfoldable pub without : List Content → ℕ → List Content
without [] i = []
without (c ∷ cs) zero = cs
without (c ∷ cs) (suc i) = c ∷ without cs i
