-- `vendor::read_vendor` meets its contract: what is asked first, the image that is taken, and the payload of its entries.
-- Assumes nothing.
use mathlib.Core.Path.{ap, sym, ◌∙◌}
use Rattle.layout.proofs.Passed.{passed}
use Rattle.blocks.specs.Vendor.{Taking}
use Rattle.blocks.proofs.Asking.{read-unasked}
use Rattle.vendor.proofs.Taking.{outcome, read-refused, read-reached}
use Rattle.vendor.proofs.read_vendor.Goals as goal

pub returns-in_err-ask : goal.returns-in_err-ask
returns-in_err-ask c = let a = c.args in
    rw (passed c.from_residual.result c.from_residual.ensures.1) (outcome (read-unasked a.format a.edition a.image.now a.buffer.now _ (sym c.ask.ensures ∙ c.in_err-ask.was)))

pub returns-in_err-room : goal.returns-in_err-room
returns-in_err-room c = let a = c.args in
    let asks = sym c.ask.ensures ∙ c.in_ok-ask.was in
    rw (passed c.from_residual-in_err-room.result c.from_residual-in_err-room.ensures.1)
    (outcome (read-refused a.format a.edition a.image.now a.buffer.now _ asks _ (sym c.take_image.ensures ∙ c.in_err-room.was)))

pub take_room-requires : goal.take_room-requires
take_room-requires c = let a = c.args in
    let asks = sym c.ask.ensures ∙ c.in_ok-ask.was in
    let w = read-reached a.format a.edition a.image.now a.buffer.now _ asks _ (sym c.take_image.ensures ∙ c.in_ok-room.was) in
    (w.done, w.bound, w.most)

pub returns : goal.returns
returns c = let a = c.args in
    let asks = sym c.ask.ensures ∙ c.in_ok-ask.was in
    let w = read-reached a.format a.edition a.image.now a.buffer.now _ asks _ (sym c.take_image.ensures ∙ c.in_ok-room.was) in
    (c.take_room.ensures.value ∙ ap (λ (t : Taking). t.answer) (sym w.is), c.take_room.ensures.buffer_after ∙ ap (λ (t : Taking). t.memory) (sym w.is))
