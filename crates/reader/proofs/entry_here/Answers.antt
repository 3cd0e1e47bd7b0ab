-- `reader::entry_here` meets its contract: the entry of the frame that is read, which lies in the image.
-- Assumes nothing.
use Prim.Native.Nat.{ℕ, ◌-◌}
use mathlib.Core.Path.{◌≡◌, ap, sym, ◌∙◌}
use mathlib.Core.List.{List}
use native.Mathlib.Omega.{arith}
use Rattle.std.proofs.Common.{rules}
use Rattle.std.specs.Prelude.{Err, None}
use Rattle.layout.specs.Bytes.{part}
use Rattle.layout.specs.Shape.{next}
use Rattle.layout.specs.Editions.{shape}
use Rattle.layout.specs.Calls.{reading_by}
use Rattle.frames.proofs.Spots.{found-there}
use Rattle.reader.specs.Here.{here_at}
use Rattle.reader.proofs.Lying.{framed-lies, value-at}
use Rattle.reader.proofs.entry_here.Goals as goal

pub overflow_add-p : goal.overflow_add-p
overflow_add-p c = let a = c.args in
    let f = c.in-Ok-Some.f in
    let w = framed-lies a.format a.shut a.image.now a.p a.end f (found-there c.next_frame.ensures c.in-Ok-Some.is c.in-Ok-Some.field-0-is) in
    omega (arith, w.lies.inside, w.lies.value_last)

pub entry_of-requires : goal.entry_of-requires
entry_of-requires c = let a = c.args in
    let f = c.in-Ok-Some.f in
    let w = framed-lies a.format a.shut a.image.now a.p a.end f (found-there c.next_frame.ensures c.in-Ok-Some.is c.in-Ok-Some.field-0-is) in
    (omega (arith, w.lies.key_in), omega (arith, w.lies.inside, w.lies.value_last))

pub overflow_add-result : goal.overflow_add-result
overflow_add-result c = let a = c.args in
    let f = c.in-Ok-Some.f in
    let w = framed-lies a.format a.shut a.image.now a.p a.end f (found-there c.next_frame.ensures c.in-Ok-Some.is c.in-Ok-Some.field-0-is) in
    omega (arith, w.bound, c.ranges)

pub returns : goal.returns
unfolding here_at
returns c = let a = c.args in
    let f = c.in-Ok-Some.f in
    let w = framed-lies a.format a.shut a.image.now a.p a.end f (found-there c.next_frame.ensures c.in-Ok-Some.is c.in-Ok-Some.field-0-is) in
    let i = a.image.now in
    let e = found-there c.next_frame.ensures c.in-Ok-Some.is c.in-Ok-Some.field-0-is in
    let read = c.reading_at-reading.ensures ∙ ap (λ (v : List ℕ). reading_by (shape a.format) a.edition f.code v) (value-at i a.p f w.lies) in
    rw (e, w.is, c.entry_of.ensures a.edition (part a.p f.size i) c.kind_of-as_kind.ensures read, c.is_last.ensures)

pub returns-in_default : goal.returns-in_default
unfolding here_at
returns-in_default c = let a = c.args in
    let none : c.in_default.field-0 ≡ None = search rules in
    rw (found-there c.next_frame.ensures c.in_default.is none)

pub returns-in_default-2 : goal.returns-in_default-2
unfolding here_at
returns-in_default-2 c = let a = c.args in
    let e : next (shape a.format) a.shut (part a.p (a.end - a.p) a.image.now) ≡ Err c.in_default.field-0 = sym c.next_frame.ensures ∙ c.in_default.is in
    rw e
