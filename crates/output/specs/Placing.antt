-- What the functions that write leave in the output. Each writes what it is asked to where that fits and is bytes, and else leaves the output as it was.
-- Assumes nothing.
use Rattle.std.specs.Prelude.{ℕ, ◌+◌, List, ◌++◌, Bool, ◌&&◌, length, take, drop, ltb, leb}
use Rattle.layout.specs.Bytes.{if, part}
use Rattle.layout.specs.Shape.{Shape}
use Rattle.layout.specs.Read.{limit}
use Rattle.layout.specs.Write.{image_of, padded}
use Rattle.output.specs.Lengths.{fits_in}

-- d with s written over it from place a on
unfoldable pub over : List ℕ → ℕ → List ℕ → List ℕ
over d a s = take a d ++ (s ++ drop (a + length s) d)

-- the same where it fits
abbrev pub placed : Bool → List ℕ → ℕ → List ℕ → List ℕ
placed ok d a s = if (ok && leb (a + length s) (length d)) (λ _. over d a s) (λ _. d)

-- bytes
unfoldable pub copied : List ℕ → ℕ → List ℕ → List ℕ
copied d a s = if (leb (a + length s) (length d)) (λ _. over d a s) (λ _. d)

-- what opens a new entry of a code that is a byte
unfoldable pub opening_placed : Shape → List ℕ → ℕ → ℕ → List ℕ → List ℕ
opening_placed S d a c key = placed (ltb c 256 && leb (length d) limit) d a (S.opening c key)

-- a value that meets the rule on lengths, with the bytes that say its length
unfoldable pub value_placed : Shape → List ℕ → ℕ → ℕ → List ℕ → List ℕ
value_placed S d a c v = placed (S.length_rule c (length v) && leb (length d) limit) d a (S.lens c (length v) ++ v)

-- the n bytes of entries that stand where the header ends become the image of those entries, with FFh after its end
unfoldable pub finished : Shape → List ℕ → ℕ → List ℕ
finished S d n =
    if (fits_in S n (length d))
    (λ _. padded (image_of S (part (length (S.header n)) n d)) (length d))
    (λ _. d)
