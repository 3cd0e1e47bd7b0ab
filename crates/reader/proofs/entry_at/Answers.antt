-- `reader::entry_at` meets its contract: entry n of an image that is taken, whose walk came to its end.
-- Assumes nothing.
use mathlib.Core.Path.{ap, sym, ◌∙◌}
use Rattle.layout.specs.Editions.{shape}
use Rattle.layout.specs.Walk.{Walked}
use Rattle.layout.specs.Calls.{nth, entries_of, entry_at}
use Rattle.layout.proofs.Passed.{passed}
use Rattle.laws.specs.Passes.{raws_in}
use Rattle.accept.proofs.Rooms.{took, not-took}
use Rattle.reader.proofs.entry_at.Goals as goal

pub nth_entry-requires : goal.nth_entry-requires
nth_entry-requires c = let a = c.args in
    let w = took a.format a.edition a.image.now c.in_ok-room.room (sym c.take_image.ensures ∙ c.in_ok-room.was) in
    rw w.walks tt

pub returns-in_err-room : goal.returns-in_err-room
unfolding entry_at
returns-in_err-room c = let a = c.args in
    let r = c.in_err-room.field-0.0 in
    let q = not-took a.format a.edition a.image.now r (sym c.take_image.ensures ∙ c.in_err-room.was) in
    rw q (passed c.from_residual.result c.from_residual.ensures.1)

pub returns : goal.returns
unfolding entry_at
returns c = let a = c.args in
    let room = c.in_ok-room.room in
    let w = took a.format a.edition a.image.now room (sym c.take_image.ensures ∙ c.in_ok-room.was) in
    rw w.read
    (c.nth_entry.ensures ∙ ap (λ (x : Walked). nth (entries_of (shape room.format) a.edition room.start (raws_in x)) a.n) w.walks)
