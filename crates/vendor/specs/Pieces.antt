-- What the passes over entries and pieces answer.
-- Assumes nothing.
use Rattle.std.specs.Prelude.{ℕ, List, [], ◌∷◌, map, drop, ◌&&◌, length, leb, eqb, Some, None}
use Rattle.std.specs.declared.option.Option.{Option}
use Rattle.layout.specs.declared.Format.TheVariants.{Onie}
use Rattle.layout.specs.Bytes.{if, all}
use Rattle.layout.specs.Walk.{Content, content}
use Rattle.laws.specs.Passes.{walked, raws_in}
use Rattle.blocks.specs.Payload.{matches, matching, joined, sum}

-- the piece that an entry holds, where it matches
abbrev pub piece_in : Content → Option (List ℕ)
piece_in c = if (matches c) (λ _. Some (drop 5 c.value)) (λ _. None)

-- the matching entries of an image that has the room of its entries from start to end
abbrev pub matching_in : List ℕ → ℕ → ℕ → List Content
matching_in image start end = matching (map content (raws_in (walked Onie image start end)))

-- how many bytes the pieces of matching entries have, where there are any
abbrev pub joined_length : List Content → Option ℕ
joined_length [] = None
joined_length (c ∷ cs) = Some (length (joined (c ∷ cs)))

-- the pieces of a payload of so many bytes
abbrev pub counted_by : List ℕ → ℕ → Option ℕ
counted_by pieces need = if (all (λ n. leb n 250) pieces && eqb (sum pieces) need) (λ _. Some (length pieces)) (λ _. None)
