-- `tiny::tests_passed` meets its contract: antt computes that the ones of the low four bits are the tests passed, at each byte.
-- Assumes nothing.
use mathlib.Core.Path.{sym, ◌∙◌}
use Prim.Native.Nat.{◌%◌}
use borrow.Author.Rules.{rules}
use lib.Count.{ones_in, ones}
use Rattle.layout.specs.Tiny.{passed}
use Rattle.crc.specs.Table.{rows}
use Rattle.crc.proofs.Table.{made}
use Rattle.tiny.proofs.tests_passed.Goals as goal

pub returns : goal.returns
unfolding rows ones ones_in
returns c = let b = c.args.b in
    sym (made (λ b. ones (b % 16)) 256 b (search rules)) ∙ made passed 256 b (search rules)
