-- `vpd::vpd_head` meets its contract: it goes by the first byte, as the definition does.
-- Assumes nothing.
use Prim.Native.Nat.{ℕ, ◌<◌}
use mathlib.Core.Path.{◌≡◌, sym, ◌∙◌}
use mathlib.Core.List.{List}
use mathlib.Core.Logic.{◌⊎◌, inl, inr}
use native.Mathlib.Omega.{arith}
use borrow.Author.Tests.{lt-ltb, le-ltb, ne_eqb}
use lib.ListN.{length, get_or}
use Rattle.std.specs.Prelude.{Ok, None}
use Rattle.layout.specs.Vpd.{groups, keyed_head, vpd_head}
use Rattle.vpd.proofs.vpd_head.Goals as goal

-- bytes whose first one ends the image, or opens an entry
module _ (s : List ℕ) (some : 0 < length s) where
  ends : (get_or s 0 0 ≡ 0x00) ⊎ (get_or s 0 0 ≡ 0xFF) → vpd_head s ≡ Ok None
  unfolding vpd_head
  ends (inl e) = rw (lt-ltb 0, e)
  ends (inr e) = rw (lt-ltb 0, e)

  opens : (get_or s 0 0 ≡ 0x01) ⊎ (get_or s 0 0 ≡ 0xFE) → vpd_head s ≡ keyed_head (groups 4 0 1 s) s
  unfolding vpd_head
  opens (inl e) = rw (lt-ltb 0, e)
  opens (inr e) = rw (lt-ltb 0, e)

pub returns-then-s-le0 : goal.returns-then-s-le0
unfolding vpd_head
returns-then-s-le0 c = rw (le-ltb _ _ c.if-s-le0.true)

pub overflow_cast-code : goal.overflow_cast-code
overflow_cast-code c = omega (arith, c.type_inv.s 0)

pub returns-in-0 : goal.returns-in-0
returns-in-0 c = sym (ends _ c.if-s-le0.false c.in-0.is)

pub returns-in-1 : goal.returns-in-1
returns-in-1 c = c.keyed_head.ensures ∙ sym (opens _ c.if-s-le0.false c.in-1.is)

pub returns-in_default : goal.returns-in_default
unfolding vpd_head
returns-in_default c = let none = c.in_default.in_default-own.rest in
    rw (
      lt-ltb _ _ c.if-s-le0.false,
      ne_eqb _ 0x00 (λ e. none.0.1 (inl e)),
      ne_eqb _ 0xFF (λ e. none.0.1 (inr e)),
      ne_eqb _ 0x01 (λ e. none.1 (inl e)),
      ne_eqb _ 0xFE (λ e. none.1 (inr e)),
    )
