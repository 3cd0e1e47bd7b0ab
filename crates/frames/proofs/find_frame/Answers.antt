-- `frames::find_frame` meets its contract. The loop's invariant: entry n of all is entry `left` of those from p on, and `left` is the measure.
-- Assumes nothing.
use Prim.Native.Nat.{◌-◌}
use mathlib.Core.Path.{◌≡◌, sym, ◌∙◌}
use native.Mathlib.Omega.{arith}
use Rattle.std.proofs.Common.{rules}
use Rattle.std.specs.Prelude.{None}
use Rattle.layout.specs.Editions.{shape}
use Rattle.frames.proofs.Spots.{found-there, framed-inside, spot-found, spot_on, spot-ended, spot-broken}
use Rattle.frames.proofs.find_frame.Goals as goal

pub returns-then-left-eq0 : goal.returns-then-left-eq0
returns-then-left-eq0 c = let a = c.args in
    let l = c.loop-f in
    let f = c.in-Ok-Some.f in
    let e = found-there c.next_frame.ensures c.in-Ok-Some.is c.in-Ok-Some.field-0-is in
    sym (l.invariant ∙ spot-found (shape a.format) a.image.now l.shut l.p a.end l.left f e c.if-left-eq0.true)

pub overflow_add-p : goal.overflow_add-p
overflow_add-p c = let a = c.args in
    let l = c.loop-f in
    let f = c.in-Ok-Some.f in
    let e = found-there c.next_frame.ensures c.in-Ok-Some.is c.in-Ok-Some.field-0-is in
    omega (arith, (framed-inside a.format l.shut a.image.now l.p a.end f e).1)

pub loop-f-preserved : goal.loop-f-preserved
loop-f-preserved c = let a = c.args in
    let l = c.loop-f in
    let f = c.in-Ok-Some.f in
    let e = found-there c.next_frame.ensures c.in-Ok-Some.is c.in-Ok-Some.field-0-is in
    rw c.is_last-shut.ensures (l.invariant ∙ spot_on (shape a.format) a.image.now l.shut l.p a.end l.left f (l.left - 1) e (omega arith))

pub returns-in_default : goal.returns-in_default
returns-in_default c = let a = c.args in
    let l = c.loop-f in
    let none : c.in_default.field-0 ≡ None = search rules in
    sym (l.invariant ∙ spot-ended (shape a.format) a.image.now l.shut l.p a.end l.left (found-there c.next_frame.ensures c.in_default.is none))

pub returns-in_default-2 : goal.returns-in_default-2
returns-in_default-2 c = let a = c.args in
    let l = c.loop-f in
    sym (l.invariant ∙ spot-broken (shape a.format) a.image.now l.shut l.p a.end l.left c.in_default.field-0 (sym c.next_frame.ensures ∙ c.in_default.is))
