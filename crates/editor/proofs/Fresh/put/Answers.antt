-- `editor::Fresh::put` meets its contract: nothing, the value, or the opening and the value side by side.
-- Assumes nothing.
use mathlib.Core.Path.{refl, sym, ◌∙◌}
use Rattle.layout.specs.Editions.{shape}
use Rattle.output.proofs.Overlay.{copied-nil}
use Rattle.output.proofs.Rooms.{value-copied, entry-copied}
use Rattle.editor.proofs.Fresh.put.Goals as goal

pub returns-in-Nothing : goal.returns-in-Nothing
returns-in-Nothing c = let a = c.args in rw c.in-Nothing.is (sym (copied-nil a.out.now a.at))

pub returns-in-Value : goal.returns-in-Value
returns-in-Value c = let a = c.args in
    let e = c.in-Value.is in
    rw e (c.put_value.ensures ∙ value-copied (shape a.format) a.out.now a.at c.in-Value.code c.in-Value.value.now (rw e at c.requires.out_len_bound.1) c.requires.out_len_bound.0)

pub returns-in-Entry : goal.returns-in-Entry
returns-in-Entry c = let a = c.args in
    let h = c.in-Entry in
    let e = h.is in
    rw e
    (entry-copied (shape a.format) h.code h.key.now h.value.now a.out.now a.at c.requires.out_len_bound.0 (rw e at c.requires.out_len_bound.1) (rw e at c.requires.fresh_in_bounds)
    c.opening_length.ensures c.put_opening.ensures refl c.put_value-in-Entry.ensures)
