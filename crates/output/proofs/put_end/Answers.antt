-- `output::put_end` meets its contract: a copy, and FFh after it.
-- Assumes nothing.
use borrow.Author.Rules.{rules}
use Rattle.output.proofs.Overlay.{copied-padded}
use Rattle.output.proofs.put_end.Goals as goal

pub returns : goal.returns
returns c = copied-padded _ _ _ c.copy_at.ensures c.fill_rest.ensures (search rules)
