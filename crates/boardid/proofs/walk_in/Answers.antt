-- `boardid::walk_in` meets its contract: four words.
-- Assumes nothing.
use Rattle.boardid.proofs.Giving.{walk-says, no_walk}
use borrow.Author.Rules.{rules}
use Rattle.boardid.proofs.walk_in.Goals as goal

pub returns-then-w-lt16 : goal.returns-then-w-lt16
returns-then-w-lt16 c = no_walk c.args.w.now (search rules)

pub returns : goal.returns
returns c = walk-says c.args.w.now _ _ _ _ (search rules) c.word_in.ensures c.word_in-2.ensures c.word_in-low.ensures c.word_in-high.ensures
