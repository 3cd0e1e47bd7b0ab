-- `reader::pool_string` meets its contract. The loop's invariant: the pool of all entries is the pool of those that a pass which stands at p has to do.
-- The measure is what is left of the room.
-- Assumes nothing.
use Prim.Native.Nat.{ℕ, ◌+◌}
use mathlib.Core.Path.{◌≡◌, ap, sym, ◌∙◌}
use native.Mathlib.Omega.{arith}
use lib.ListN.{length}
use mathlib.Core.List.{List}
use Rattle.std.proofs.Common.{rules}
use Rattle.std.specs.Prelude.{None}
use Rattle.layout.specs.declared.Format.TheVariants.{Tiny}
use Rattle.layout.specs.Calls.{string_in}
use Rattle.laws.proofs.Passes.{part-most}
use Rattle.frames.proofs.Spots.{found-there}
use Rattle.reader.proofs.Lying.{framed-lies}
use Rattle.reader.proofs.Finding.{pooling-starts, pooling-found, pooling-on, pooling-over, pooling-unbroken}
use Rattle.reader.proofs.pool_string.Goals as goal
use Rattle.reader.proofs.pool_string.Goals.{in_default, in_default-2}

pub loop-f-init : goal.loop-f-init
loop-f-init c = let a = c.args in
    pooling-starts a.image.now a.start.0 a.end.0 a.number.0 c.requires.2

pub overflow_add-at : goal.overflow_add-at
overflow_add-at c = let a = c.args in
    let i = a.image.now in
    let l = c.loop-f in
    let f = c.in-Ok-Some.f in
    let e = found-there c.next_frame.ensures c.in-Ok-Some.is c.in-Ok-Some.field-0-is in
    let w = framed-lies Tiny l.shut i l.p a.end.0 f e in
    omega (arith, w.lies.inside, w.lies.value_last)

pub string_in-requires : goal.string_in-requires
string_in-requires c = let a = c.args in
    let i = a.image.now in
    let l = c.loop-f in
    let f = c.in-Ok-Some.f in
    let e = found-there c.next_frame.ensures c.in-Ok-Some.is c.in-Ok-Some.field-0-is in
    let w = framed-lies Tiny l.shut i l.p a.end.0 f e in
    omega (arith, w.lies.inside, w.lies.value_last, c.requires.1, ap length c.part_of.ensures, part-most i (l.p + f.val) f.vlen)

pub returns-then-f-eq1 : goal.returns-then-f-eq1
returns-then-f-eq1 c = let a = c.args in
    let i = a.image.now in
    let l = c.loop-f in
    let f = c.in-Ok-Some.f in
    let e = found-there c.next_frame.ensures c.in-Ok-Some.is c.in-Ok-Some.field-0-is in
    c.string_in.ensures ∙ ap (λ (bs : List ℕ). string_in bs (l.p + f.val) 0 a.number.0) c.part_of.ensures ∙ sym (pooling-found l.invariant f e c.if-f-eq1.true)

pub overflow_add-p : goal.overflow_add-p
overflow_add-p c = let a = c.args in
    let i = a.image.now in
    let l = c.loop-f in
    let f = c.in-Ok-Some.f in
    let e = found-there c.next_frame.ensures c.in-Ok-Some.is c.in-Ok-Some.field-0-is in
    let w = framed-lies Tiny l.shut i l.p a.end.0 f e in
    omega (arith, w.lies.inside)

pub loop-f-smaller : goal.loop-f-smaller
loop-f-smaller c = let a = c.args in
    let i = a.image.now in
    let l = c.loop-f in
    let f = c.in-Ok-Some.f in
    let e = found-there c.next_frame.ensures c.in-Ok-Some.is c.in-Ok-Some.field-0-is in
    let w = framed-lies Tiny l.shut i l.p a.end.0 f e in
    omega (arith, w.bound, w.some)

pub loop-f-preserved : goal.loop-f-preserved
loop-f-preserved c = let a = c.args in
    let i = a.image.now in
    let l = c.loop-f in
    let f = c.in-Ok-Some.f in
    let e = found-there c.next_frame.ensures c.in-Ok-Some.is c.in-Ok-Some.field-0-is in
    rw c.is_last-shut.ensures (pooling-on l.invariant f e c.if-f-eq1.false)

pub returns : goal.returns
returns c = let a = c.args in
    let l = c.loop-f in
    elim c.match-next_frame.branch [
      | in_default w ↦
          let none : w.in_default.field-0 ≡ None = search rules in
          rw c.from.ensures (sym (pooling-over l.invariant (found-there c.next_frame.ensures w.in_default.is none)))
      | in_default-2 w ↦
          pooling-unbroken l.invariant w.in_default.field-0 (sym c.next_frame.ensures ∙ w.in_default.is)
    ]
