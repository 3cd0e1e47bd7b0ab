-- The value of a test, for `search`: from the fact that it tests, which may follow from a bound by a numeral.
-- Assumes nothing.
use Prim.Native.Nat.{ℕ, suc, ◌≤◌, ◌<◌}
use mathlib.Core.Path.{◌≡◌}
use mathlib.Core.Bool.{true}
use native.Mathlib.Omega.{arith}
use lib.Dec.{ltb, leb}
use borrow.Author.Tests.{ltb-true, leb-true, lt-ltb, le-ltb, le-leb, lt-leb, eq-eqb, ne_eqb}

pub ruleset tests = (lt-ltb, le-ltb, le-leb, lt-leb, eq-eqb, ne_eqb)

-- What follows of a where a bound m is known. At numerals m and b the test computes, and `search` finds m among the hypotheses.
module _ (m a b : ℕ) where
  pub over : m ≤ a → leb b m ≡ true → b ≤ a
  over h t = omega (arith, leb-true b m t)

  pub under : a < m → leb m (suc b) ≡ true → a ≤ b
  under h t = omega (arith, leb-true m (suc b) t)

  pub less : a < m → leb m b ≡ true → a < b
  less h t = omega (arith, leb-true m b t)

  pub not-over : m ≤ a → ltb b m ≡ true → a ≡ b → ⊥
  not-over h t e = omega (arith, ltb-true b m t)

  pub not-under : a < m → leb m b ≡ true → a ≡ b → ⊥
  not-under h t e = omega (arith, leb-true m b t)

pub ruleset ranges = (tests, over, under, less, not-over, not-under)
