-- `output::write_value` meets its contract: two copies side by side.
-- Assumes nothing.
use borrow.Author.Rules.{rules}
use lib.ListN.{length-append}
use Rattle.output.proofs.Overlay.{copied-then}
use Rattle.output.proofs.write_value.Goals as goal

pub returns : goal.returns
returns c = copied-then _ _ _ _ c.put_lens.ensures c.copy_at.ensures (rw length-append c.requires.out_len_bound.1) (search rules)
