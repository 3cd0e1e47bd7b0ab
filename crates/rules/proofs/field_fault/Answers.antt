-- `rules::field_fault` meets its contract: a code that is named is a byte, so that the marks can be looked at.
-- Assumes nothing.
use mathlib.Core.Path.{sym, ◌∙◌}
use Rattle.laws.proofs.Names.{named-byte}
use Rattle.rules.proofs.field_fault.Goals as goal

pub is_seen-requires-clause-n_in_bounds : goal.is_seen-requires-clause-n_in_bounds
is_seen-requires-clause-n_in_bounds c = let a = c.args in
    (c.requires.n_in_bounds, named-byte a.format a.edition a.x.code (sym c.is_named.ensures ∙ c.if-not-is_named.false))
