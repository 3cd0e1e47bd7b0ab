-- `reader::nth_entry` meets its contract: the frame that is found is entry n's, and lies in the image.
-- Assumes nothing.
use mathlib.Core.Path.{ap, sym, ◌∙◌}
use mathlib.Core.List.{List}
use Prim.Native.Nat.{ℕ}
use native.Mathlib.Omega.{arith}
use Rattle.std.specs.Prelude.{Ok}
use Rattle.layout.specs.declared.Entry.{Entry}
use Rattle.layout.specs.Editions.{shape}
use Rattle.layout.specs.Calls.{reading_by}
use Rattle.reader.proofs.Lying.{value-at}
use Rattle.reader.proofs.Finding.{nth-found, nth-missing}
use Rattle.reader.proofs.nth_entry.Goals as goal

pub overflow_add-p : goal.overflow_add-p
overflow_add-p c = let a = c.args in
    let found = nth-found a.format a.edition a.image.now a.start a.end a.n c.requires _ _ (sym c.find_frame.ensures ∙ c.in-Some.is) in
    omega (arith, found.0.inside, found.0.value_last)

pub entry_of-requires : goal.entry_of-requires
entry_of-requires c = let a = c.args in
    let found = nth-found a.format a.edition a.image.now a.start a.end a.n c.requires _ _ (sym c.find_frame.ensures ∙ c.in-Some.is) in
    (omega (arith, found.0.key_in), omega (arith, found.0.inside, found.0.value_last))

pub returns : goal.returns
returns c = let a = c.args in
    let found = nth-found a.format a.edition a.image.now a.start a.end a.n c.requires _ _ (sym c.find_frame.ensures ∙ c.in-Some.is) in
    let f = c.in-Some.f in
    let read = c.reading_at-reading.ensures ∙ ap (λ (v : List ℕ). reading_by (shape a.format) a.edition f.code v) (value-at _ _ _ found.0) in
    ap (λ (x : Entry). Ok x) (c.entry_of.ensures a.edition _ c.kind_of-as_kind.ensures read) ∙ sym found.1

pub returns-in_default : goal.returns-in_default
returns-in_default c = let a = c.args in
    rw c.from.ensures
    (sym (nth-missing a.format a.edition a.image.now a.start a.end a.n c.requires (sym c.find_frame.ensures ∙ c.in_default.is)))
