-- `parts::all_between` meets its contract: the chain gives whether each byte passes the test.
-- Assumes nothing.
use mathlib.Core.Path.{◌∙◌}
use borrow.Author.Rules.{rules}
use Rattle.std.proofs.lemmas.Iterator.{YieldsList-from_slice}
use Rattle.std.proofs.lemmas.Iterator.Search.{all_from_yields_List}
use Rattle.layout.specs.Bytes.{between}
use Rattle.parts.proofs.Loops.{all_listed}
use Rattle.parts.proofs.Tests.{tests}
use Rattle.parts.proofs.all_between.Goals as goal

pub returns : goal.returns
returns c =
    let test = between c.args.low c.args.high in
    all_from_yields_List test _ _ _ c.all.ensures.ran (YieldsList-from_slice c.args.v.now cc) (λ x b q k. search (rules, tests)) ∙ all_listed test _
