-- `vendor::join` meets its contract: a loop that goes from entry to entry. The measure is what is left of the room.
-- Assumes nothing.
use Prim.Native.Nat.{ℕ, ◌-◌}
use mathlib.Core.Path.{ap, ◌≡◌, sym, ◌∙◌}
use mathlib.Core.Bool.{false}
use native.Mathlib.Omega.{arith}
use Rattle.std.proofs.Common.{rules}
use Rattle.std.specs.Prelude.{Ok, Some, None}
use Rattle.layout.specs.declared.Format.TheVariants.{Onie}
use Rattle.layout.specs.Bytes.{part}
use Rattle.layout.specs.Shape.{next}
use Rattle.layout.specs.Editions.{shape}
use Rattle.reader.proofs.Lying.{framed-lies}
use Rattle.vendor.proofs.Joining.{joining-starts, joining-passes, joining-adds, joining-over, joining-unbroken}
use Rattle.vendor.specs.Pieces.{piece_in}
use Rattle.std.specs.Option.{option_copied}
use Rattle.output.specs.Placing.{copied}
use mathlib.Core.List.{List}
use Rattle.vendor.proofs.join.Goals.{in-Some, in_default-piece_of}
use Rattle.vendor.proofs.join.Goals as goal

pub loop-f-init : goal.loop-f-init
loop-f-init c = let a = c.args in let r = c.requires in joining-starts a.image.now a.start a.end a.own.now r.0 r.1

pub overflow_add-p : goal.overflow_add-p
overflow_add-p c = let a = c.args in
    let i = a.image.now in
    let l = c.loop-f in
    let f = c.in-Ok-Some.f in
    let e : next (shape Onie) false (part l.p (a.end - l.p) i) ≡ Ok (Some f) = sym c.next_frame.ensures ∙ c.in-Ok-Some.is ∙ ap Ok c.in-Ok-Some.field-0-is in
    let w = framed-lies Onie false i l.p a.end f e in
    omega (arith, w.lies.inside, w.lies.value_last)

pub overflow_add-p-in-Ok-Some : goal.overflow_add-p-in-Ok-Some
overflow_add-p-in-Ok-Some c = let a = c.args in
    let i = a.image.now in
    let l = c.loop-f in
    let f = c.in-Ok-Some.f in
    let e : next (shape Onie) false (part l.p (a.end - l.p) i) ≡ Ok (Some f) = sym c.next_frame.ensures ∙ c.in-Ok-Some.is ∙ ap Ok c.in-Ok-Some.field-0-is in
    let w = framed-lies Onie false i l.p a.end f e in
    omega (arith, w.bound, c.ranges.end.fits)

pub loop-f-smaller : goal.loop-f-smaller
loop-f-smaller c = let a = c.args in
    let i = a.image.now in
    let l = c.loop-f in
    let f = c.in-Ok-Some.f in
    let e : next (shape Onie) false (part l.p (a.end - l.p) i) ≡ Ok (Some f) = sym c.next_frame.ensures ∙ c.in-Ok-Some.is ∙ ap Ok c.in-Ok-Some.field-0-is in
    let w = framed-lies Onie false i l.p a.end f e in
    omega (arith, w.bound, w.some)

pub loop-f-preserved : goal.loop-f-preserved
loop-f-preserved c = let a = c.args in
    let i = a.image.now in
    let l = c.loop-f in
    let f = c.in-Ok-Some.f in
    let e : next (shape Onie) false (part l.p (a.end - l.p) i) ≡ Ok (Some f) = sym c.next_frame.ensures ∙ c.in-Ok-Some.is ∙ ap Ok c.in-Ok-Some.field-0-is in
    let reads = c.part_of-value.ensures in
    elim c.match-piece_of.branch [
      | in-Some w ↦
          let piece = w.in-Some.piece.now in
          let has : (key : List ℕ) → piece_in (record { code = f.code; key = key; value = c.part_of-value.result.now }) ≡ Some piece =
          λ key. sym (c.piece_of.ensures key) ∙ ap option_copied w.in-Some.is in
          rw (w.own-is, w.len-is, w.unwrap_or-at.ensures) (joining-adds i a.start a.end l.invariant f e reads has c.requires.2 (w.copy_at.ensures ∙ ap (λ (n : ℕ). copied l.own n piece) w.unwrap_or-at.ensures))
      | in_default-piece_of w ↦
          let has : (key : List ℕ) → piece_in (record { code = f.code; key = key; value = c.part_of-value.result.now }) ≡ None =
          λ key. sym (c.piece_of.ensures key) ∙ ap option_copied w.in_default-piece_of.is in
          rw (w.own-is, w.len-is) (joining-passes i a.start a.end l.invariant f e reads has)
    ]

pub returns-in_default : goal.returns-in_default
returns-in_default c = let a = c.args in
    let none : c.in_default.field-0 ≡ None = search rules in
    let g = joining-over a.image.now a.start a.end c.loop-f.invariant (sym c.next_frame.ensures ∙ c.in_default.is ∙ ap Ok none) c.requires.2 in
    record { value = g.0; own_after = g.1; len_in_bounds = g.2 }

pub returns-in_default-2 : goal.returns-in_default-2
returns-in_default-2 c = let a = c.args in joining-unbroken a.image.now a.start a.end c.loop-f.invariant c.in_default.field-0 (sym c.next_frame.ensures ∙ c.in_default.is)
