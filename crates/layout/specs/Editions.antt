-- Formats, editions, names and kinds (01, "Editions and kinds"; 02, "ONIE images and edition 3", "Entries remember their whole frame").
-- Assumes nothing.
use Rattle.std.specs.Prelude.{ℕ, ◌+◌, ◌*◌, List, [], ◌∷◌, Bool, false, leb, eqb, Ok, Err}
use Rattle.layout.specs.declared.Format.{Format}
use Rattle.layout.specs.declared.Format.TheVariants.{Fboss, Vpd, Tiny, Onie}
use Rattle.layout.specs.Answers.{Chosen}
use Rattle.layout.specs.Bytes.{if, between}
use Rattle.layout.specs.Shape.{Shape, Naming}
use Rattle.layout.specs.Fboss.{fboss}
use Rattle.layout.specs.Vpd.{vpd}
use Rattle.layout.specs.Tiny.{tiny}
use Rattle.layout.specs.Onie.{onie}

abbrev pub shape : Format → Shape
shape Fboss = fboss
shape Vpd = vpd
shape Tiny = tiny
shape Onie = onie

-- 01's term "edition": those that are known; 1 and 2 are 01's, 3 and 4 are 02's
abbrev pub known_edition : ℕ → Bool
known_edition e = between 1 4 e

-- a format, where the edition is known and has it: 1, then 16
abbrev pub with_edition : ℕ → Format → Chosen
with_edition e f =
    if (known_edition e)
    (λ _. if (leb (shape f).edition e) (λ _. Ok f) (λ _. Err 16))
    (λ _. Err 1)

-- the format and edition of a call: 16 for a number that is no format's, then 1, then 16 for a format that the edition does not have
unfoldable pub chosen : ℕ → ℕ → Chosen
chosen f e =
    if (eqb f 1) (λ _. with_edition e Fboss)
    (λ _. if (eqb f 2) (λ _. with_edition e Vpd)
    (λ _. if (eqb f 3) (λ _. with_edition e Tiny)
    (λ _. if (eqb f 4) (λ _. with_edition e Onie)
    (λ _. Err 16))))

-- the first edition that names a code, or none
pub data Since : Type 0 where
  from : ℕ → Since
  never : Since

unfoldable pub since_in : List Naming → ℕ → Since
since_in [] c = never
since_in (n ∷ ns) c = if (between n.low n.high c) (λ _. from n.edition) (λ _. since_in ns c)

abbrev pub since : Shape → ℕ → Since
since S c = since_in S.namings c

abbrev pub reached : Since → ℕ → Bool
reached (from n) e = leb n e
reached never e = false

-- 01's term "names": an edition names a code where it is not before the first that does
unfoldable pub names : Shape → ℕ → ℕ → Bool
names S e c = reached (since S c) e

-- 01's term "kind": format × 256 + code of a named entry, and 0 of any other
unfoldable pub kind : Shape → ℕ → ℕ → ℕ
kind S e c = if (names S e c) (λ _. S.number * 256 + c) (λ _. 0)
