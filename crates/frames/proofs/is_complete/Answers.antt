-- `frames::is_complete` meets its contract: the chain gives whether each of FBOSS's required codes is marked.
-- Assumes nothing.
use mathlib.Core.List.{[], ◌∷◌}
use borrow.Author.Rules.{rules}
use Rattle.std.proofs.lemmas.Iterator.{YieldsList-from_slice}
use Rattle.std.proofs.lemmas.Iterator.Search.{all_from_yields_List}
use Rattle.layout.specs.Fboss.{fboss}
use Rattle.laws.specs.Marked.{marked, all_marked}
use Rattle.parts.proofs.Tests.{tests}
use Rattle.frames.proofs.is_complete.Goals as goal

pub returns-in-Fboss : goal.returns-in-Fboss
unfolding fboss all_marked
returns-in-Fboss c =
    let seen = marked c.args.seen.now in
    rw c.in-Fboss.is
    (all_from_yields_List seen _ _ _ c.all.ensures.ran (YieldsList-from_slice (1 ∷ 8 ∷ 9 ∷ 10 ∷ 11 ∷ []) cc) (λ x b q k. search (rules, tests)))
