-- A code that an edition names is a byte, and so is one that an image must have.
-- Assumes nothing.
use Prim.Native.Nat.{ℕ, ◌<◌}
use mathlib.Core.Path.{◌≡◌, refl}
use mathlib.Core.List.{List, [], ◌∷◌}
use mathlib.Core.Bool.{Bool, true, false}
use native.Mathlib.Omega.{arith}
use lib.Dec.{leb}
use borrow.Author.Tests.{leb-true}
use Rattle.layout.specs.declared.Format.{Format}
use Rattle.layout.specs.declared.Format.TheVariants.{Fboss, Vpd, Tiny, Onie}
use Rattle.layout.specs.Bytes.{if, between}
use Rattle.layout.specs.Shape.{Naming}
use Rattle.layout.specs.Fboss.{fboss}
use Rattle.layout.specs.Vpd.{vpd}
use Rattle.layout.specs.Tiny.{tiny}
use Rattle.layout.specs.Onie.{onie}
use Rattle.layout.specs.Editions.{shape, from, since_in, reached, names}
use Rattle.layout.specs.Each.{Each, none, also}
use Rattle.layout.proofs.Choices.{false-true, both}

named-below : (ns : List Naming) (e c : ℕ) → Each (λ n. n.high < 256) ns → reached (since_in ns c) e ≡ true → c < 256
unfolding since_in
named-below [] e c none h = false-true h
named-below (n ∷ ns) e c (also lt lts) h = go (between n.low n.high c) refl h (named-below ns e c lts)
  where
    go : (b : Bool) → between n.low n.high c ≡ b → reached (if b (λ _. from n.edition) (λ _. since_in ns c)) e ≡ true →
        (reached (since_in ns c) e ≡ true → c < 256) → c < 256
    go true t h rest = let w = both (leb n.low c) (leb c n.high) t in omega (arith, leb-true c n.high w.1)
    go false t h rest = rest h

pub named-byte : (f : Format) (e c : ℕ) → names (shape f) e c ≡ true → c < 256
unfolding names fboss vpd tiny onie
named-byte Fboss e c h = named-below fboss.namings e c (also (omega arith) (also (omega arith) none)) h
named-byte Vpd e c h = named-below vpd.namings e c (also (omega arith) (also (omega arith) none)) h
named-byte Tiny e c h = named-below tiny.namings e c (also (omega arith) (also (omega arith) (also (omega arith) (also (omega arith) none)))) h
named-byte Onie e c h = named-below onie.namings e c (also (omega arith) (also (omega arith) (also (omega arith) none))) h

pub required-bytes : (f : Format) → Each (λ c. c < 256) (shape f).required
unfolding fboss vpd tiny onie
required-bytes Fboss = also {x = 1} (omega arith) (also {x = 8} (omega arith) (also {x = 9} (omega arith) (also {x = 10} (omega arith) (also {x = 11} (omega arith) none))))
required-bytes Vpd = none
required-bytes Tiny = none
required-bytes Onie = none
