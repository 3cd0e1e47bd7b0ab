-- `editor::find_place` meets its contract: a pass from entry to entry. The measure is what is left of the room.
-- Assumes nothing.
use borrow.Author.Rules.{rules}
use Prim.Native.Nat.{◌-◌}
use mathlib.Core.Path.{ap, ◌≡◌, sym, ◌∙◌}
use mathlib.Core.Bool.{false}
use native.Mathlib.Omega.{arith}
use Rattle.std.specs.Prelude.{Ok, Some, None}
use Rattle.layout.specs.Bytes.{part}
use Rattle.layout.specs.Shape.{next}
use Rattle.layout.specs.Editions.{shape}
use Rattle.frames.proofs.Spots.{framed-inside}
use Rattle.accept.proofs.Endings.{frame-parts}
use Rattle.editor.proofs.Adding.{seek-first, seek-ended, seek-unbroken, seek-seen, seek-last, seek-on}
use Rattle.editor.proofs.find_place.Goals as goal

pub loop-f-init : goal.loop-f-init
loop-f-init c = let a = c.args in seek-first a.room.format a.image.now a.room.start a.room.end _ (search rules)

pub overflow_add-p : goal.overflow_add-p
overflow_add-p c = let a = c.args in
    let p = c.loop-f.p in
    let f = c.in-Ok-Some.f in
    let e : next (shape a.room.format) false (part p (a.room.end - p) a.image.now) ≡ Ok (Some f) = sym c.next_frame.ensures ∙ c.in-Ok-Some.is ∙ ap Ok c.in-Ok-Some.field-0-is in
    omega (arith, (frame-parts a.room.format a.image.now a.room.end false p f e).0, (framed-inside a.room.format false a.image.now p a.room.end f e).1)

pub returns-then-is_same : goal.returns-then-is_same
returns-then-is_same c = let a = c.args in
    let p = c.loop-f.p in
    let f = c.in-Ok-Some.f in
    let e : next (shape a.room.format) false (part p (a.room.end - p) a.image.now) ≡ Ok (Some f) = sym c.next_frame.ensures ∙ c.in-Ok-Some.is ∙ ap Ok c.in-Ok-Some.field-0-is in
    seek-seen a.room.format a.image.now a.room.start a.room.end _ p c.loop-f.invariant f e (rw c.part_of-other.ensures at (sym c.is_same.ensures ∙ c.if-is_same.true))

pub returns-then-is_last : goal.returns-then-is_last
returns-then-is_last c = let a = c.args in
    let p = c.loop-f.p in
    let f = c.in-Ok-Some.f in
    let e : next (shape a.room.format) false (part p (a.room.end - p) a.image.now) ≡ Ok (Some f) = sym c.next_frame.ensures ∙ c.in-Ok-Some.is ∙ ap Ok c.in-Ok-Some.field-0-is in
    seek-last a.room.format a.image.now a.room.start a.room.end _ p c.loop-f.invariant f e (rw c.part_of-other.ensures at (sym c.is_same.ensures ∙ c.if-is_same.false)) (sym c.is_last.ensures ∙ c.if-is_last.true)

pub overflow_add-p-in-Ok-Some : goal.overflow_add-p-in-Ok-Some
overflow_add-p-in-Ok-Some c = let a = c.args in
    let p = c.loop-f.p in
    let f = c.in-Ok-Some.f in
    let e : next (shape a.room.format) false (part p (a.room.end - p) a.image.now) ≡ Ok (Some f) = sym c.next_frame.ensures ∙ c.in-Ok-Some.is ∙ ap Ok c.in-Ok-Some.field-0-is in
    omega (arith, (framed-inside a.room.format false a.image.now p a.room.end f e).2, c.well_formed)

pub loop-f-smaller : goal.loop-f-smaller
loop-f-smaller c = let a = c.args in
    let p = c.loop-f.p in
    let f = c.in-Ok-Some.f in
    let e : next (shape a.room.format) false (part p (a.room.end - p) a.image.now) ≡ Ok (Some f) = sym c.next_frame.ensures ∙ c.in-Ok-Some.is ∙ ap Ok c.in-Ok-Some.field-0-is in
    omega (arith, framed-inside a.room.format false a.image.now p a.room.end f e)

pub loop-f-preserved : goal.loop-f-preserved
loop-f-preserved c = let a = c.args in
    let p = c.loop-f.p in
    let f = c.in-Ok-Some.f in
    let e : next (shape a.room.format) false (part p (a.room.end - p) a.image.now) ≡ Ok (Some f) = sym c.next_frame.ensures ∙ c.in-Ok-Some.is ∙ ap Ok c.in-Ok-Some.field-0-is in
    seek-on a.room.format a.image.now a.room.start a.room.end _ p c.loop-f.invariant f e (rw c.part_of-other.ensures at (sym c.is_same.ensures ∙ c.if-is_same.false)) (sym c.is_last.ensures ∙ c.if-is_last.false)

pub returns-in_default : goal.returns-in_default
returns-in_default c = let a = c.args in
    let none : c.in_default.field-0 ≡ None = search rules in
    seek-ended a.room.format a.image.now a.room.start a.room.end _ c.loop-f.p c.loop-f.invariant (sym c.next_frame.ensures ∙ c.in_default.is ∙ ap Ok none)

pub returns-in_default-2 : goal.returns-in_default-2
returns-in_default-2 c = let a = c.args in absurd (seek-unbroken a.room.format a.image.now a.room.start a.room.end _ c.loop-f.p c.loop-f.invariant _ (sym c.next_frame.ensures ∙ c.in_default.is))
