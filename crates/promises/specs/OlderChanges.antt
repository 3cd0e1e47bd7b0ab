-- Promise 5, older changes (demand 3): what an older edition edits, adds or removes, a newer one still reads, with that one change.
-- Assumes nothing.
use Rattle.std.specs.Prelude.{ℕ, ◌≤◌, ◌<◌, ◌≡◌, List, [], ◌∷◌, ◌++◌, length, take}
use Rattle.layout.specs.declared.Field.{Field}
use Rattle.layout.specs.Walk.{Content}
use Rattle.laws.specs.Contents.{replaced, without}
use Rattle.layout.specs.Each.{Each}
use Rattle.promises.specs.Words.{Counts, Reads, tells_check, Changes, tells_change, edits, adds, removes}
use Rattle.promises.specs.RoundTrip.{field_says}

-- edition n read `former` before the change, and reads `latter` after it: in the whole output, and in its part up to the length given
pub record Kept (f n : ℕ) (image : List ℕ) (Makes : List Content → List Content → Type 0) (output : List ℕ) (m : ℕ) : Type 0 where
  pub former : List Content
  pub latter : List Content
  pub makes : Makes former latter
  pub before : Reads f n image former
  pub whole : Reads f n output latter
  pub front : Reads f n (take m output) latter

-- o is no newer than n; that both are editions that have the format follows from what they did not refuse
abbrev pub Keeps : Changes → (ℕ → List Content → List Content → Type 0) → Type 0
Keeps call makes =
    (f o n : ℕ) (image : List ℕ) (count : ℕ) (out : List ℕ) (m : ℕ) → o ≤ n → Counts (tells_check f n image) count →
    Counts (tells_change call f o image out) m → Kept f n image (makes f) (call f o image out).memory m

-- a list with one entry more: after the last; in Tiny before the pool, where there is one
pub data Added (f : ℕ) (c : Content) : List Content → List Content → Type 0 where
  last : {cs : List Content} → (f ≡ 3 → Each (λ d. d.code ≡ 0x01 → ⊥) cs) → Added f c cs (cs ++ (c ∷ []))
  before_pool : (cs : List Content) (pool : Content) → f ≡ 3 → pool.code ≡ 0x01 → Added f c (cs ++ (pool ∷ [])) (cs ++ (c ∷ pool ∷ []))

-- only that value is changed
abbrev pub OlderEdits : Type 0
OlderEdits = (i : ℕ) (v : List ℕ) → Keeps (edits i v) (λ f former latter. latter ≡ replaced former i v)

-- the entry that the field says is added
abbrev pub OlderAdds : Type 0
OlderAdds = (x : Field) (more : List Field) (values : List ℕ) → Keeps (adds (x ∷ more) values) (λ f. Added f (field_says f values x))

-- entry i was there, and is gone
abbrev pub OlderRemoves : Type 0
OlderRemoves = (i : ℕ) → Keeps (removes i) (λ f former latter. (i < length former) × (latter ≡ without former i))
