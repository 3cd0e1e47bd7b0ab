-- `accept::Span::walk_on` meets its contract: what is left of the walk gives the same ending.
-- Assumes nothing.
use Prim.Native.Nat.{◌-◌}
use mathlib.Core.Path.{ap, ◌≡◌, refl, sym, ◌∙◌}
use native.Mathlib.Omega.{arith}
use native.Mathlib.Nat.{add-zero}
use Rattle.std.specs.Prelude.{Ok, Err, Some, None}
use Rattle.layout.specs.Bytes.{part}
use Rattle.layout.specs.Shape.{next}
use Rattle.layout.specs.Editions.{shape}
use Rattle.laws.proofs.Walking.{walk_end, walk-bad}
use Rattle.frames.proofs.Spots.{framed-inside}
use Rattle.accept.proofs.Endings.{ending-on}
use Rattle.accept.proofs.Span.walk_on.Goals as goal

pub loop-f-init : goal.loop-f-init
loop-f-init c = (c.requires.0, c.requires.1, refl)

pub overflow_add-q : goal.overflow_add-q
overflow_add-q c = let a = c.args.self in
    let l = c.loop-f in
    let k = c.in-Ok-Some.f in
    let e : next (shape a.format) l.closed (part l.q (a.end - l.q) c.args.image.now) ≡ Ok (Some k) = sym c.next_frame.ensures ∙ c.in-Ok-Some.is ∙ ap Ok c.in-Ok-Some.field-0-is in
    let i = framed-inside a.format l.closed c.args.image.now l.q a.end k e in
    omega arith

pub overflow_add-count : goal.overflow_add-count
overflow_add-count c = let a = c.args.self in
    let l = c.loop-f in
    let k = c.in-Ok-Some.f in
    let e : next (shape a.format) l.closed (part l.q (a.end - l.q) c.args.image.now) ≡ Ok (Some k) = sym c.next_frame.ensures ∙ c.in-Ok-Some.is ∙ ap Ok c.in-Ok-Some.field-0-is in
    let i = framed-inside a.format l.closed c.args.image.now l.q a.end k e in
    omega arith

pub loop-f-smaller : goal.loop-f-smaller
loop-f-smaller c = let a = c.args.self in
    let l = c.loop-f in
    let k = c.in-Ok-Some.f in
    let e : next (shape a.format) l.closed (part l.q (a.end - l.q) c.args.image.now) ≡ Ok (Some k) = sym c.next_frame.ensures ∙ c.in-Ok-Some.is ∙ ap Ok c.in-Ok-Some.field-0-is in
    let i = framed-inside a.format l.closed c.args.image.now l.q a.end k e in
    omega arith

pub loop-f-preserved : goal.loop-f-preserved
loop-f-preserved c = let a = c.args.self in
    let l = c.loop-f in
    let k = c.in-Ok-Some.f in
    let e : next (shape a.format) l.closed (part l.q (a.end - l.q) c.args.image.now) ≡ Ok (Some k) = sym c.next_frame.ensures ∙ c.in-Ok-Some.is ∙ ap Ok c.in-Ok-Some.field-0-is in
    let i = framed-inside a.format l.closed c.args.image.now l.q a.end k e in
    (i.2, omega arith, l.invariant.2 ∙ rw c.is_last-closed.ensures (ending-on a.format c.args.image.now a.end l.closed l.q k e l.count c.args.judgement))

pub returns-in-Ok-None : goal.returns-in-Ok-None
returns-in-Ok-None c = let a = c.args.self in
    let l = c.loop-f in
    let e : next (shape a.format) l.closed (part l.q (a.end - l.q) c.args.image.now) ≡ (Ok None) = sym c.next_frame.ensures ∙ c.in-Ok-None.is ∙ ap Ok c.in-Ok-None.field-0-is in
    sym (l.invariant.2 ∙ rw (walk_end (shape a.format) l.closed l.q (part l.q (a.end - l.q) c.args.image.now) e, add-zero))

pub returns-in-Err : goal.returns-in-Err
returns-in-Err c = let a = c.args.self in
    let l = c.loop-f in
    let k = c.in-Err.k in
    let e : next (shape a.format) l.closed (part l.q (a.end - l.q) c.args.image.now) ≡ Err k = sym c.next_frame.ensures ∙ c.in-Err.is in
    ap Err c.at.ensures ∙ sym (l.invariant.2 ∙ rw (walk-bad (shape a.format) l.closed l.q (part l.q (a.end - l.q) c.args.image.now) k e))
