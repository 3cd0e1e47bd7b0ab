-- `fields::field_at` meets its contract: the numbers of a field that is there, and zeros.
-- Assumes nothing.
use Prim.Native.Nat.{◌*◌}
use mathlib.Core.Path.{sym, ◌∙◌}
use Rattle.fields.proofs.Lists.{field-there, field-not, field-words}
use borrow.Author.Rules.{rules}
use Rattle.fields.proofs.field_at.Goals as goal

pub returns-then-i-fields : goal.returns-then-i-fields
returns-then-i-fields c = let a = c.args in
    rw (c.word_at.ensures, c.part_at.ensures, c.part_at-then-i-fields.ensures)
    (sym (field-there a.fields.now a.i (search rules) ∙ field-words (a.i * 20) a.fields.now))

pub returns-else-i-fields : goal.returns-else-i-fields
returns-else-i-fields c = let a = c.args in sym (field-not a.fields.now a.i (search rules))
