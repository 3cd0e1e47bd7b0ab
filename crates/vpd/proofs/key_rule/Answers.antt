-- `vpd::key_rule` meets its contract: the chain gives whether each byte is of the alphabet.
-- Assumes nothing.
use Prim.Native.Nat.{ℕ, ◌<◌}
use mathlib.Core.Path.{◌≡◌, refl, ap, ◌∙◌}
use mathlib.Core.List.{List, [], ◌∷◌}
use mathlib.Core.Bool.{Bool, ◌&&◌}
use native.Mathlib.Omega.{arith}
use borrow.Author.Rules.{rules}
use borrow.Author.Tests.{lt-ltb}
use lib.ListN.{length}
use Rattle.std.specs.List.{list_all}
use Rattle.std.proofs.lemmas.Bool.Decides.{nat_tests}
use Rattle.std.proofs.lemmas.Iterator.{YieldsList-from_slice}
use Rattle.std.proofs.lemmas.Iterator.Search.{all_from_yields_List}
use Rattle.layout.specs.Bytes.{all}
use Rattle.layout.specs.Vpd.{key_byte}
use Rattle.vpd.proofs.key_rule.Goals as goal

-- a chain that tests each byte answers as the definition does
all_listed : (t : ℕ → Bool) (v : List ℕ) → list_all t v ≡ all t v
unfolding all
all_listed t [] = refl
all_listed t (b ∷ bs) = ap (λ (r : Bool). t b && r) (all_listed t bs)

pub returns-then-not-is_empty : goal.returns-then-not-is_empty
returns-then-not-is_empty c =
    let some : 0 < length c.args.key.now = grind (arith, nat_tests, c.is_empty.ensures, c.if-not-is_empty.true) in
    rw (lt-ltb 0 (length c.args.key.now) some)
    (all_from_yields_List key_byte _ _ _ c.all.ensures.ran (YieldsList-from_slice c.args.key.now cc) (λ x b q k. search (rules, nat_tests)) ∙ all_listed key_byte _)
