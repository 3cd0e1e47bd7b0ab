-- `accept::take_image` meets its contract: 16, 1, 2, the header, and the room of the entries.
-- Assumes nothing.
use mathlib.Core.Path.{ap, sym, ◌∙◌}
use native.Mathlib.Omega.{arith}
use Rattle.std.specs.Prelude.{Err}
use Rattle.layout.proofs.Passed.{passed}
use Rattle.laws.proofs.Rooms.{room-inside}
use Rattle.accept.proofs.Taking.{taken-unknown, taken-long, taken-closed, taken-room}
use Rattle.accept.proofs.take_image.Goals as goal

pub returns-in_err-format : goal.returns-in_err-format
returns-in_err-format c = let a = c.args in
    let k = c.in_err-format.field-0.0 in
    passed c.from_residual.result c.from_residual.ensures.1 ∙ sym (taken-unknown a.format a.edition a.image.now k (sym c.choose.ensures ∙ c.in_err-format.was))

pub returns-then-image-gt65536 : goal.returns-then-image-gt65536
returns-then-image-gt65536 c = let a = c.args in
    let g = c.in_ok-format.format in
    ap Err c.from.ensures ∙ sym (taken-long a.format a.edition a.image.now g (sym c.choose.ensures ∙ c.in_ok-format.was) c.if-image-gt65536.true)

pub returns-in_err-start : goal.returns-in_err-start
returns-in_err-start c = let a = c.args in
    let r = c.in_err-start.field-0.0 in
    passed c.from_residual-in_err-start.result c.from_residual-in_err-start.ensures.1
    ∙ sym (taken-closed a.format a.edition a.image.now c.in_ok-format.format r (sym c.choose.ensures ∙ c.in_ok-format.was) c.if-image-gt65536.false (sym c.open_image.ensures ∙ c.in_err-start.was))

pub take_room-requires : goal.take_room-requires
take_room-requires c = let a = c.args in
    let s = c.in_ok-start.start in
    let n = c.in_ok-start.end in
    let i = room-inside c.in_ok-format.format a.image.now s n (sym c.open_image.ensures ∙ c.in_ok-start.was) in
    (i.0, omega (arith, i.1))

pub returns : goal.returns
returns c = let a = c.args in
    let s = c.in_ok-start.start in
    let n = c.in_ok-start.end in
    c.take_room.ensures ∙ sym (taken-room a.format a.edition a.image.now c.in_ok-format.format s n (sym c.choose.ensures ∙ c.in_ok-format.was) c.if-image-gt65536.false (sym c.open_image.ensures ∙ c.in_ok-start.was))
