-- `accept::Span::read_entries` meets its contract: how the pass ends is how it ends from each place on, after the entries passed, whose codes are marked and whose keys the filter knows.
-- Assumes nothing.
use Prim.Native.Nat.{◌+◌, ◌-◌}
use mathlib.Core.Path.{◌≡◌, refl, ap, sym, ◌∙◌}
use mathlib.Core.Bool.{true, false}
use native.Mathlib.Omega.{arith}
use lib.ListN.{length}
use Rattle.std.specs.Prelude.{Ok, Err, Some, None}
use Rattle.layout.specs.Bytes.{part}
use Rattle.layout.specs.Shape.{next}
use Rattle.layout.specs.Editions.{shape}
use Rattle.keys.specs.Filter.{with_key}
use Rattle.keys.proofs.Seen.{kept-length}
use Rattle.frames.proofs.Spots.{framed-inside}
use Rattle.accept.proofs.Endings.{frame-parts, frame-code}
use Rattle.accept.proofs.Judging.{along-first, along-ended, along-broken, along-judges, along-fault, along-on}
use Rattle.accept.proofs.Span.read_entries.Goals as goal

pub loop-f-init : goal.loop-f-init
loop-f-init c = let a = c.args.self in
    (refl, along-first a.format a.edition c.args.image.now a.start a.end c.args.filter.now c.requires)

pub overflow_add-p : goal.overflow_add-p
overflow_add-p c = let a = c.args.self in
    let l = c.loop-f in
    let f = c.in-Ok-Some.f in
    let image = c.args.image.now in
    let e : next (shape a.format) l.shut (part l.p (a.end - l.p) image) ≡ Ok (Some f) = sym c.next_frame.ensures ∙ c.in-Ok-Some.is ∙ ap Ok c.in-Ok-Some.field-0-is in
    let i = framed-inside a.format l.shut image l.p a.end f e in
    let parts = frame-parts a.format image a.end l.shut l.p f e in
    omega arith

pub is_seen-repeated-requires : goal.is_seen-repeated-requires
is_seen-repeated-requires c = let a = c.args.self in
    let l = c.loop-f in
    let f = c.in-Ok-Some.f in
    let image = c.args.image.now in
    let e : next (shape a.format) l.shut (part l.p (a.end - l.p) image) ≡ Ok (Some f) = sym c.next_frame.ensures ∙ c.in-Ok-Some.is ∙ ap Ok c.in-Ok-Some.field-0-is in
    let code = frame-code a.format image a.end l.shut l.p f e (λ k. (c.type_inv.image k).fits) in
    (l.invariant.1.bound, code)

pub overflow_add-p-in-Ok-Some : goal.overflow_add-p-in-Ok-Some
overflow_add-p-in-Ok-Some c = let a = c.args.self in
    let l = c.loop-f in
    let f = c.in-Ok-Some.f in
    let image = c.args.image.now in
    let e : next (shape a.format) l.shut (part l.p (a.end - l.p) image) ≡ Ok (Some f) = sym c.next_frame.ensures ∙ c.in-Ok-Some.is ∙ ap Ok c.in-Ok-Some.field-0-is in
    let i = framed-inside a.format l.shut image l.p a.end f e in
    let parts = frame-parts a.format image a.end l.shut l.p f e in
    omega arith

pub walk_on-requires : goal.walk_on-requires
walk_on-requires c = let l = c.loop-f in
    (omega (arith, l.invariant.1.bound), l.invariant.1.few)

pub shape_of-filter-in-Some : goal.shape_of-filter-in-Some
shape_of-filter-in-Some c = ap length c.note_key-known.ensures.1 ∙ kept-length _ _ _ ∙ c.loop-f.invariant.0

pub returns-in-Some : goal.returns-in-Some
returns-in-Some c = let a = c.args.self in
    let l = c.loop-f in
    let f = c.in-Ok-Some.f in
    let image = c.args.image.now in
    let e : next (shape a.format) l.shut (part l.p (a.end - l.p) image) ≡ Ok (Some f) = sym c.next_frame.ensures ∙ c.in-Ok-Some.is ∙ ap Ok c.in-Ok-Some.field-0-is in
    let k = along-judges a.format a.edition image a.start a.end l.p l.n l.shut l.seen l.filter l.invariant.1 f e _ _ _ _ _ c.part_of-key.ensures c.part_of-value.ensures c.note_key-known.ensures.0 c.is_seen-repeated.ensures c.fault_of.ensures in
    c.walk_on.ensures ∙ rw c.at.ensures (sym (along-fault a.format a.edition image a.start a.end l.p l.n l.shut l.seen l.filter l.invariant.1 f e c.in-Some.k (sym c.in-Some.is ∙ k)))

pub overflow_cast-seen : goal.overflow_cast-seen
overflow_cast-seen c = let a = c.args.self in
    let l = c.loop-f in
    let f = c.in-Ok-Some.f in
    let image = c.args.image.now in
    let e : next (shape a.format) l.shut (part l.p (a.end - l.p) image) ≡ Ok (Some f) = sym c.next_frame.ensures ∙ c.in-Ok-Some.is ∙ ap Ok c.in-Ok-Some.field-0-is in
    let code = frame-code a.format image a.end l.shut l.p f e (λ k. (c.type_inv.image k).fits) in
    omega arith

pub bounds-seen-f : goal.bounds-seen-f
bounds-seen-f c = let a = c.args.self in
    let l = c.loop-f in
    let f = c.in-Ok-Some.f in
    let image = c.args.image.now in
    let e : next (shape a.format) l.shut (part l.p (a.end - l.p) image) ≡ Ok (Some f) = sym c.next_frame.ensures ∙ c.in-Ok-Some.is ∙ ap Ok c.in-Ok-Some.field-0-is in
    let code = frame-code a.format image a.end l.shut l.p f e (λ k. (c.type_inv.image k).fits) in
    code

pub overflow_add-p-in-Ok-Some-2 : goal.overflow_add-p-in-Ok-Some-2
overflow_add-p-in-Ok-Some-2 c = let a = c.args.self in
    let l = c.loop-f in
    let f = c.in-Ok-Some.f in
    let image = c.args.image.now in
    let e : next (shape a.format) l.shut (part l.p (a.end - l.p) image) ≡ Ok (Some f) = sym c.next_frame.ensures ∙ c.in-Ok-Some.is ∙ ap Ok c.in-Ok-Some.field-0-is in
    let i = framed-inside a.format l.shut image l.p a.end f e in
    omega arith

pub overflow_add-n : goal.overflow_add-n
overflow_add-n c = let a = c.args.self in
    let l = c.loop-f in
    let f = c.in-Ok-Some.f in
    let image = c.args.image.now in
    let e : next (shape a.format) l.shut (part l.p (a.end - l.p) image) ≡ Ok (Some f) = sym c.next_frame.ensures ∙ c.in-Ok-Some.is ∙ ap Ok c.in-Ok-Some.field-0-is in
    let i = framed-inside a.format l.shut image l.p a.end f e in
    omega (arith, l.invariant.1.few)

pub loop-f-smaller : goal.loop-f-smaller
loop-f-smaller c = let a = c.args.self in
    let l = c.loop-f in
    let f = c.in-Ok-Some.f in
    let image = c.args.image.now in
    let e : next (shape a.format) l.shut (part l.p (a.end - l.p) image) ≡ Ok (Some f) = sym c.next_frame.ensures ∙ c.in-Ok-Some.is ∙ ap Ok c.in-Ok-Some.field-0-is in
    let i = framed-inside a.format l.shut image l.p a.end f e in
    omega arith

pub loop-f-preserved : goal.loop-f-preserved
loop-f-preserved c = let a = c.args.self in
    let l = c.loop-f in
    let f = c.in-Ok-Some.f in
    let image = c.args.image.now in
    let e : next (shape a.format) l.shut (part l.p (a.end - l.p) image) ≡ Ok (Some f) = sym c.next_frame.ensures ∙ c.in-Ok-Some.is ∙ ap Ok c.in-Ok-Some.field-0-is in
    let code = frame-code a.format image a.end l.shut l.p f e (λ k. (c.type_inv.image k).fits) in
    let k = along-judges a.format a.edition image a.start a.end l.p l.n l.shut l.seen l.filter l.invariant.1 f e _ _ _ _ _ c.part_of-key.ensures c.part_of-value.ensures c.note_key-known.ensures.0 c.is_seen-repeated.ensures c.fault_of.ensures in
    let words : c.note_key-known.new.filter ≡ with_key l.filter f.code (part (l.p + f.key) f.klen image) = c.note_key-known.ensures.1 ∙ ap (with_key l.filter f.code) c.part_of-key.ensures in
    rw (c.is_last-shut.ensures, words) (
      kept-length l.filter f.code (part (l.p + f.key) f.klen image) ∙ l.invariant.0,
      along-on a.format a.edition image a.start a.end l.p l.n l.shut l.seen l.filter l.invariant.1 f e code (sym c.in_default.is ∙ k),
    )

pub returns-then-is_complete : goal.returns-then-is_complete
returns-then-is_complete c = let a = c.args.self in
    let l = c.loop-f in
    let image = c.args.image.now in
    let e : next (shape a.format) l.shut (part l.p (a.end - l.p) image) ≡ (Ok None) = sym c.next_frame.ensures ∙ c.in-Ok-None.is ∙ ap Ok c.in-Ok-None.field-0-is in
    sym (along-ended a.format a.edition image a.start a.end l.p l.n l.shut l.seen l.filter l.invariant.1 e true (sym c.if-is_complete.true ∙ c.is_complete.ensures))

pub returns-else-is_complete : goal.returns-else-is_complete
returns-else-is_complete c = let a = c.args.self in
    let l = c.loop-f in
    let image = c.args.image.now in
    let e : next (shape a.format) l.shut (part l.p (a.end - l.p) image) ≡ (Ok None) = sym c.next_frame.ensures ∙ c.in-Ok-None.is ∙ ap Ok c.in-Ok-None.field-0-is in
    rw c.from.ensures (sym (along-ended a.format a.edition image a.start a.end l.p l.n l.shut l.seen l.filter l.invariant.1 e false (sym c.if-is_complete.false ∙ c.is_complete.ensures)))

pub returns-in-Err : goal.returns-in-Err
returns-in-Err c = let a = c.args.self in
    let l = c.loop-f in
    let image = c.args.image.now in
    let k = c.in-Err.k in
    let e : next (shape a.format) l.shut (part l.p (a.end - l.p) image) ≡ Err k = sym c.next_frame.ensures ∙ c.in-Err.is in
    ap Err c.at-in-Err.ensures ∙ sym (along-broken a.format a.edition image a.start a.end l.p l.n l.shut l.seen l.filter l.invariant.1 k e)
