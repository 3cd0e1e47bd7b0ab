-- `boardid::put_records` meets its contract: a loop that goes from entry to entry. The measure is what is left of the room.
-- Assumes nothing.
use mathlib.Core.Path.{sym, ◌∙◌}
use native.Mathlib.Omega.{arith}
use borrow.Author.Rules.{rules}
use Rattle.boardid.proofs.Filling.{filling-starts, filling-length, filling-goes, filling-over}
use Rattle.boardid.proofs.put_records.Goals as goal

pub loop-s-init : goal.loop-s-init
loop-s-init c = let a = c.args in filling-starts a.format a.edition a.image.now a.start a.end _ (search rules)

pub returns : goal.returns
returns c = let a = c.args in
    filling-over a.format a.edition a.image.now a.start a.end (search rules) c.loop-s.invariant (sym c.entry_here.ensures ∙ c.in_default.is)

pub overflow_add-at : goal.overflow_add-at
overflow_add-at c = let a = c.args in
    let g = filling-goes a.format a.edition a.image.now a.start a.end (search rules) c.loop-s.invariant c.in-Some.s c.put_record.new.out (sym c.entry_here.ensures ∙ c.in-Some.is) c.put_record.ensures in
    omega (arith, g.low)

pub loop-s-smaller : goal.loop-s-smaller
loop-s-smaller c = let a = c.args in
    let g = filling-goes a.format a.edition a.image.now a.start a.end (search rules) c.loop-s.invariant c.in-Some.s c.put_record.new.out (sym c.entry_here.ensures ∙ c.in-Some.is) c.put_record.ensures in
    omega (arith, g.further, g.bound)

pub loop-s-preserved : goal.loop-s-preserved
loop-s-preserved c = let a = c.args in
    let g = filling-goes a.format a.edition a.image.now a.start a.end (search rules) c.loop-s.invariant c.in-Some.s c.put_record.new.out (sym c.entry_here.ensures ∙ c.in-Some.is) c.put_record.ensures in
    g.on
