-- The strings of a Tiny pool are its bytes cut after each byte whose top bit is on, in order; 15 exactly past the last.
-- Assumes nothing.
use Rattle.std.specs.Prelude.{ℕ, ◌+◌, ◌≤◌, ◌<◌, ◌≡◌, List, [], ◌∷◌, ◌++◌, length}
use Rattle.layout.specs.declared.Part.{Part}
use Rattle.layout.specs.declared.Entry.{Entry}
use Rattle.layout.specs.Bytes.{part, part_at}
use Rattle.layout.specs.Calls.{told, bytes_at, string_at}
use Rattle.laws.specs.Contents.{said}
use Rattle.layout.specs.Each.{Each}
use Rattle.promises.specs.Words.{Counts, Refuses, IsRefused, Item, Lists, tells_check, tells_string}

-- bytes that stand at p, cut into strings: each ends with the first byte whose top bit is on; an unfinished tail is no string
pub data Strings : ℕ → List ℕ → List Part → Type 0 where
  tail : {p : ℕ} {bytes : List ℕ} → Each (λ b. b < 128) bytes → Strings p bytes []
  string : {p b : ℕ} {front more : List ℕ} {parts : List Part} → Each (λ c. c < 128) front → 128 ≤ b → Strings (p + (length front + 1)) more parts →
      Strings p (front ++ (b ∷ more)) (part_at p (length front + 1) ∷ parts)

-- the strings of a pool that is this record's entry
pub record PoolStrings (e : ℕ) (image : List ℕ) (pool : Entry) : Type 0 where
  pub parts : List Part
  pub cut : Strings pool.value.place.0 (said image pool).value parts
  pub string : (k : ℕ) (x : Part) → Item parts k x → tells_string 3 e image k ≡ told x.len x []
  pub string_bytes : (k : ℕ) (x : Part) → Item parts k x → bytes_at image (string_at 3 e image k) ≡ part x.place.0 x.len image
  pub no_string : (k : ℕ) → length parts ≤ k → Refuses (tells_string 3 e image k) 15 0

-- an accepted Tiny image with n entries, one of which may be a pool
pub record TinyStrings (e : ℕ) (image : List ℕ) (n : ℕ) : Type 0 where
  pub entries : List Entry
  pub counted : length entries ≡ n
  pub listed : Lists 3 e image entries
  pub pooled : (i : ℕ) (x : Entry) → Item entries i x → x.code ≡ 0x01 → PoolStrings e image x
  pub no_pool : Each (λ x. x.code ≡ 0x01 → ⊥) entries → (k : ℕ) → Refuses (tells_string 3 e image k) 15 0

pub record StringRule : Type 0 where
  pub accepted : (e : ℕ) (image : List ℕ) (n : ℕ) → Counts (tells_check 3 e image) n → TinyStrings e image n
  pub refused : (e : ℕ) (image : List ℕ) (k : ℕ) → IsRefused (tells_check 3 e image) → tells_string 3 e image k ≡ tells_check 3 e image
  -- a string of another format is 16, whatever the edition
  pub another : (f e : ℕ) (image : List ℕ) (k : ℕ) → (f ≡ 3 → ⊥) → Refuses (tells_string f e image k) 16 0
