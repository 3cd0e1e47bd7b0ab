-- `accept::Span::seen_key` meets its contract: the key is looked for among the entries from q on.
-- Assumes nothing.
use Prim.Native.Nat.{ℕ, ◌+◌, ◌-◌}
use mathlib.Core.Path.{ap, ◌≡◌, refl, sym, ◌∙◌}
use mathlib.Core.Bool.{true, false, ◌&&◌}
use native.Mathlib.Omega.{arith}
use Rattle.std.proofs.Common.{rules}
use Rattle.std.specs.Prelude.{Ok, Err, Some, None}
use Rattle.layout.specs.declared.Format.TheVariants.{Vpd}
use lib.Dec.{eqb}
use Rattle.layout.specs.Bytes.{same_bytes, part}
use Rattle.layout.specs.Shape.{next}
use Rattle.layout.specs.Editions.{shape}
use Rattle.frames.proofs.Spots.{framed-inside}
use Rattle.accept.proofs.Endings.{frame-parts}
use Rattle.accept.proofs.Seen.{look-first, look-framed, look_hit, look-on, look-over}
use borrow.Author.Tests.{eq-eqb, ne_eqb}
use Rattle.accept.proofs.Span.seen_key.Goals as goal
use Rattle.accept.proofs.Span.seen_key.Goals.{else-f-eq1-via-then-f-eq1+else-same_bytes, else-f-eq1-via-else-f-eq1}

pub loop-q-init : goal.loop-q-init
loop-q-init c = let a = c.args.self in
    look-first c.args.image.now a.start a.end c.args.p c.args.key.now

pub overflow_add-q : goal.overflow_add-q
overflow_add-q c = let a = c.args.self in
    let f = c.in-Ok-Some.f in
    let e : next (shape Vpd) false (part c.loop-q.q (a.end - c.loop-q.q) c.args.image.now) ≡ Ok (Some f) = sym c.next_frame.ensures ∙ c.in-Ok-Some.is ∙ ap Ok c.in-Ok-Some.field-0-is in
    let i = framed-inside Vpd false c.args.image.now c.loop-q.q a.end f e in
    let parts = frame-parts Vpd c.args.image.now a.end false c.loop-q.q f e in
    omega arith

pub returns-then-same_bytes : goal.returns-then-same_bytes
returns-then-same_bytes c = let a = c.args.self in
    let q = c.loop-q.q in
    let f = c.in-Ok-Some.f in
    let e : next (shape Vpd) false (part q (a.end - q) c.args.image.now) ≡ Ok (Some f) = sym c.next_frame.ensures ∙ c.in-Ok-Some.is ∙ ap Ok c.in-Ok-Some.field-0-is in
    let t : eqb 1 f.code && same_bytes c.args.key.now (part (q + f.key) f.klen c.args.image.now) ≡ true = rw (eq-eqb 1 f.code (sym c.if-f-eq1.true), ← c.part_of-other.ensures) (sym c.same_bytes.ensures ∙ c.if-same_bytes.true) in
    λ past shut h. look_hit c.args.image.now a.start a.end c.args.p c.args.key.now q c.loop-q.invariant past shut h f e (omega arith) t

pub overflow_add-q-in-loop-q : goal.overflow_add-q-in-loop-q
overflow_add-q-in-loop-q c = let a = c.args.self in
    let f = c.in-Ok-Some.f in
    let e : next (shape Vpd) false (part c.loop-q.q (a.end - c.loop-q.q) c.args.image.now) ≡ Ok (Some f) = sym c.next_frame.ensures ∙ c.in-Ok-Some.is ∙ ap Ok c.in-Ok-Some.field-0-is in
    let i = framed-inside Vpd false c.args.image.now c.loop-q.q a.end f e in
    omega (arith, c.ranges)

pub loop-q-smaller : goal.loop-q-smaller
loop-q-smaller c = let a = c.args.self in
    let f = c.in-Ok-Some.f in
    let e : next (shape Vpd) false (part c.loop-q.q (a.end - c.loop-q.q) c.args.image.now) ≡ Ok (Some f) = sym c.next_frame.ensures ∙ c.in-Ok-Some.is ∙ ap Ok c.in-Ok-Some.field-0-is in
    let i = framed-inside Vpd false c.args.image.now c.loop-q.q a.end f e in
    omega arith

pub loop-q-preserved : goal.loop-q-preserved
loop-q-preserved c = let a = c.args.self in
    let q = c.loop-q.q in
    let f = c.in-Ok-Some.f in
    let e : next (shape Vpd) false (part q (a.end - q) c.args.image.now) ≡ Ok (Some f) = sym c.next_frame.ensures ∙ c.in-Ok-Some.is ∙ ap Ok c.in-Ok-Some.field-0-is in
    let t : eqb 1 f.code && same_bytes c.args.key.now (part (q + f.key) f.klen c.args.image.now) ≡ false = elim c.else-f-eq1.branch [
      | else-f-eq1-via-then-f-eq1+else-same_bytes w ↦ rw (eq-eqb 1 f.code (sym w.if-f-eq1.true), ← c.part_of-other.ensures) (sym w.same_bytes.ensures ∙ w.if-same_bytes.false)
      | else-f-eq1-via-else-f-eq1 w ↦ rw (ne_eqb 1 f.code (λ x. w.if-f-eq1.false (sym x))) refl
    ] in
    λ past shut h. look-on c.args.image.now a.start a.end c.args.p c.args.key.now q c.loop-q.invariant past shut h f e (omega arith) t

pub returns-in_default : goal.returns-in_default
returns-in_default c = let a = c.args.self in
    let q = c.loop-q.q in
    let none : c.in_default.field-0 ≡ None = search rules in
    let e : next (shape Vpd) false (part q (a.end - q) c.args.image.now) ≡ Ok None = sym c.next_frame.ensures ∙ c.in_default.is ∙ ap Ok none in
    λ past shut h. absurd (look-framed c.args.image.now a.start a.end c.args.p c.args.key.now q c.loop-q.invariant past shut h (omega arith) (Ok None) e (λ f n. let z : ◌≡◌ {A = ℕ} 0 1 = cc in omega arith))

pub returns-in_default-2 : goal.returns-in_default-2
returns-in_default-2 c = let a = c.args.self in
    let q = c.loop-q.q in
    let k = c.in_default.field-0 in
    let e : next (shape Vpd) false (part q (a.end - q) c.args.image.now) ≡ Err k = sym c.next_frame.ensures ∙ c.in_default.is in
    λ past shut h. absurd (look-framed c.args.image.now a.start a.end c.args.p c.args.key.now q c.loop-q.invariant past shut h (omega arith) (Err k) e (λ f n. let z : ◌≡◌ {A = ℕ} 0 1 = cc in omega arith))

pub returns : goal.returns
returns c = let a = c.args.self in
    λ past shut h. look-over c.args.image.now a.start a.end c.args.p c.args.key.now c.loop-q.q c.loop-q.invariant past shut h (omega arith)
