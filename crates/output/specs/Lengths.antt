-- Lengths of what is written. A sum that passes every output is cut off: it stays at `too_long`.
-- Assumes nothing.
use Rattle.std.specs.Prelude.{ℕ, ◌+◌, [], Bool, ◌&&◌, length, leb}
use Rattle.layout.specs.Bytes.{if}
use Rattle.layout.specs.Shape.{Shape}
use Rattle.layout.specs.Read.{limit}

-- longer than any output
abbrev pub too_long : ℕ
too_long = 65537

-- a length, cut off
abbrev pub capped : ℕ → ℕ
capped n = if (leb n too_long) (λ _. n) (λ _. too_long)

-- the length of an image whose entries have n bytes
abbrev pub sealed_length : Shape → ℕ → ℕ
sealed_length S n = length (S.header n) + n + (length S.closing + length (S.check []))

-- such an image fits its format and an output of so many bytes
unfoldable pub fits_in : Shape → ℕ → ℕ → Bool
fits_in S n room = leb (sealed_length S n) S.most && leb (sealed_length S n) room

-- n bytes from place a on lie in an output of so many bytes, which is not too long
unfoldable pub has_room : (room a n : ℕ) → Bool
has_room room a n = leb room limit && leb (a + n) room
