-- `crc::taken_in` meets its contract: what the remainder gives, with the bytes that are not taken in yet, stays the same.
-- Assumes nothing.
use Rattle.std.proofs.Common.{◌++◌, ◌+◌, ◌/◌, drop, length, ap, sym, ◌∙◌}
use Rattle.std.proofs.lemmas.List.{drop_all}
use Rattle.std.specs.List.{concat}
use Rattle.crc.proofs.Loop.{all-of, next-group, next-byte}
use Rattle.crc.proofs.taken_in.Goals as goal

pub loop-four-init : goal.loop-four-init
loop-four-init g c bs = let whole = c.args.bytes.now in let parts = c.as_chunks in
    ap (g.R.Remainder.gives c.args.start) (all-of 4 (length whole / 4) whole bs parts.result.0.now parts.result.1.now parts.ensures.front parts.ensures.back)

pub loop-four-preserved : goal.loop-four-preserved
loop-four-preserved g c bs = let at = c.loop-four in let parts = c.as_chunks.result in
    c.four_in-r.ensures (concat (drop (at.four-index + 1) parts.0.now) ++ (parts.1.now ++ bs))
    ∙ ap (g.R.Remainder.gives at.r) (sym (next-group parts.0.now at.four-index (parts.1.now ++ bs) c.loop-four-test.true))
    ∙ at.invariant bs

pub loop-b-init : goal.loop-b-init
loop-b-init g c bs = let at = c.loop-four in rw (drop_all at.four-index c.as_chunks.result.0.now c.loop-four-test.false) at (at.invariant bs)

pub loop-b-preserved : goal.loop-b-preserved
loop-b-preserved g c bs = let at = c.loop-b in let rest = c.as_chunks.result.1.now in
    c.byte_in-r.ensures (drop (at.b-index + 1) rest ++ bs)
    ∙ ap (g.R.Remainder.gives at.r) (sym (next-byte rest at.b-index bs c.loop-b-test.true))
    ∙ at.invariant bs

pub returns : goal.returns
returns g c bs = let at = c.loop-b in rw (drop_all at.b-index c.as_chunks.result.1.now c.loop-b-test.false) at (at.invariant bs)
