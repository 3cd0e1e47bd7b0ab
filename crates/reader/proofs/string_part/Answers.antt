-- `reader::string_part` meets its contract: format number 3 is Tiny, and the walk of an image that is taken came to its end.
-- Assumes nothing.
use mathlib.Core.Path.{ap, sym, ◌∙◌}
use borrow.Author.Tests.{eq-eqb, ne_eqb}
use Rattle.layout.specs.Walk.{Walked}
use Rattle.layout.specs.Calls.{pool_string, string_at}
use Rattle.layout.proofs.Passed.{passed}
use Rattle.laws.specs.Passes.{raws_in}
use Rattle.accept.proofs.Rooms.{took, not-took}
use Rattle.reader.proofs.Rooms.{tiny-walks}
use Rattle.reader.proofs.string_part.Goals as goal

pub returns-then-format-ne3 : goal.returns-then-format-ne3
unfolding string_at
returns-then-format-ne3 c = rw (ne_eqb c.args.format 3 c.if-format-ne3.true, c.from.ensures)

pub pool_string-requires : goal.pool_string-requires
pool_string-requires c = let a = c.args in
    let i = a.image.now in
    let room = c.in_ok-room.room in
    let w = took a.format a.edition i room (sym c.take_image.ensures ∙ c.in_ok-room.was) in
    (w.inside, w.short, rw (tiny-walks a.format a.edition i room c.if-format-ne3.false w) tt)

pub returns-in_err-room : goal.returns-in_err-room
unfolding string_at
returns-in_err-room c = let a = c.args in
    let r = c.in_err-room.field-0.0 in
    let q = not-took a.format a.edition a.image.now r (sym c.take_image.ensures ∙ c.in_err-room.was) in
    rw (eq-eqb a.format 3 c.if-format-ne3.false, q) (passed c.from_residual.result c.from_residual.ensures.1)

pub returns : goal.returns
unfolding string_at
returns c = let a = c.args in
    let i = a.image.now in
    let room = c.in_ok-room.room in
    let w = took a.format a.edition i room (sym c.take_image.ensures ∙ c.in_ok-room.was) in
    let three = c.if-format-ne3.false in
    rw (eq-eqb a.format 3 three, w.read)
    (c.pool_string.ensures ∙ ap (λ (x : Walked). pool_string room.start (raws_in x) a.number.0) (tiny-walks a.format a.edition i room three w))
