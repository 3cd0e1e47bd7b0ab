-- `tiny::identity_of` meets its contract: each field is the byte at its place.
-- Assumes nothing.
use Rattle.tiny.proofs.identity_of.Goals as goal

pub returns : goal.returns
returns c = rw (← c.string_number.ensures, ← c.string_number-2.ensures) (cc)
