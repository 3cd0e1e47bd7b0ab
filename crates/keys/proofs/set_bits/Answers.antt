-- `keys::set_bits` meets its contract: the bits of the key are set in its word, and were there where that changes nothing.
-- Assumes nothing.
use mathlib.Core.Path.{sym, ap, ◌∙◌}
use lib.ListN.{length}
use Rattle.keys.specs.Filter.{word_at, mask, noted}
use Rattle.keys.proofs.Knowing.{finds-none, finds, noted-none}
use Rattle.keys.proofs.set_bits.Goals as goal

pub returns-then-n-eq0 : goal.returns-then-n-eq0
returns-then-n-eq0 c = let a = c.args in
    (sym (finds-none a.filter.now c.if-n-eq0.true a.key.now), sym (noted-none a.filter.now c.if-n-eq0.true a.key.now))

pub returns : goal.returns
unfolding noted
returns c = let a = c.args in
    let words = a.filter.now in
    let at = c.word_at-at.ensures.0 ∙ ap (word_at (length words)) c.hash_key-h.ensures in
    let bits = c.mask_of.ensures ∙ ap mask c.hash_key-h.ensures in
    (rw (at, bits) (sym (finds words c.if-n-eq0.false a.key.now)), rw (at, bits))
