-- A bad frame is reported alike by every edition that has the format: 2, 3, 4, 5, 6, 9 and 10, each with the same place; and no rule is asked before all frames and the check are right.
-- Assumes nothing.
use Rattle.std.specs.Prelude.{ℕ, ◌≤◌, ◌≡◌, List, [], ◌∷◌, ◌++◌, true, false, length}
use Rattle.layout.specs.declared.Format.{Format}
use Rattle.layout.specs.Bytes.{one_of}
use Rattle.layout.specs.Editions.{shape}
use Rattle.layout.specs.Walk.{Content}
use Rattle.laws.specs.Grammar.{grammar, Entries}
use Rattle.promises.specs.Words.{Serves, tells_check}

-- an image whose frames and check are right: a header, entries without gaps, what closes them, the right check, and any rest; whatever its entries say
pub record Framed (format : Format) (image : List ℕ) : Type 0 where
  pub contents : List Content
  pub entries : List ℕ
  pub closing : List ℕ
  pub rest : List ℕ
  pub is : image ≡ (shape format).header (length entries) ++ (entries ++ (closing ++ ((shape format).check ((shape format).header (length entries) ++ entries) ++ rest)))
  pub closes : (grammar format).Closing closing
  pub takes : (grammar format).Takes (length entries)
  pub made : Entries (grammar format) (shape format) false entries contents
  pub short : length image ≤ 65536

-- the numbers that are given for a bad frame, and those that the rules give where the frames are right (0: accepted)
abbrev pub frame_numbers : List ℕ
frame_numbers = 2 ∷ 3 ∷ 4 ∷ 5 ∷ 6 ∷ 9 ∷ 10 ∷ []

abbrev pub rule_numbers : List ℕ
rule_numbers = 0 ∷ 7 ∷ 8 ∷ 11 ∷ []

-- every other call on a refused image tells what the check tells (Lookups, Strings)
pub record FramesAlike : Type 0 where
  pub alike : (f d e : ℕ) (format : Format) (image : List ℕ) → Serves f d format → Serves f e format → one_of frame_numbers (tells_check f d image).number ≡ true →
      tells_check f e image ≡ tells_check f d image
  -- such an edition gives a number of the first list exactly where the image is not framed, and one of the second exactly where it is
  pub framed : (f e : ℕ) (format : Format) (image : List ℕ) → Serves f e format → Framed format image → one_of rule_numbers (tells_check f e image).number ≡ true
  pub unframed : (f e : ℕ) (format : Format) (image : List ℕ) → Serves f e format → (Framed format image → ⊥) → one_of frame_numbers (tells_check f e image).number ≡ true
