-- `keys::hash_key` meets its contract: the chain takes in each byte.
-- Assumes nothing.
use mathlib.Core.Path.{◌∙◌}
use borrow.Author.Rules.{rules}
use Rattle.std.proofs.lemmas.Iterator.{YieldsList-from_slice}
use Rattle.std.proofs.lemmas.Iterator.Consumers.{fold_from_yields_List}
use Rattle.keys.specs.Filter.{hash_byte, hashed}
use Rattle.keys.proofs.Hashing.{hash_fold}
use Rattle.keys.proofs.hash_key.Goals as goal

pub returns : goal.returns
unfolding hashed
returns c = fold_from_yields_List _ hash_byte 5 _ c.fold.ensures.ran (YieldsList-from_slice c.args.key.now cc) (λ h b r q k. search rules) ∙ hash_fold 5 c.args.key.now
