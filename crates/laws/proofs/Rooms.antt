-- The room of an image's entries lies inside the image, and a closing is short.
-- Assumes nothing.
use Prim.Native.Nat.{ℕ, ◌+◌, ◌≤◌}
use mathlib.Core.Path.{◌≡◌, ap}
use mathlib.Core.List.{List}
use mathlib.Core.Bool.{Bool, true, false}
use native.Mathlib.Omega.{arith}
use lib.ListN.{length}
use lib.Dec.{eqb}
use Rattle.std.specs.Prelude.{Ok}
use Rattle.layout.specs.declared.Format.{Format}
use Rattle.layout.specs.declared.Format.TheVariants.{Fboss, Vpd, Tiny, Onie}
use Rattle.layout.specs.Bytes.{if}
use Rattle.layout.specs.Shape.{fine, faulty}
use Rattle.layout.specs.Fboss.{fboss, fboss_opened}
use Rattle.layout.specs.Vpd.{vpd}
use Rattle.layout.specs.Tiny.{tiny, tiny_opened}
use Rattle.layout.specs.Onie.{onie, onie_opened, onie_filled}
use Rattle.layout.specs.Editions.{shape}
use Rattle.laws.proofs.Outcomes.{OnOpened, on-opened}
use Rattle.laws.proofs.Fboss.{FbossRoom, fboss-room}
use Rattle.laws.proofs.Tiny.{TinyRoom, tiny-room}
use Rattle.laws.proofs.Onie.{OnieRoom, onie-room}

-- a closing has at most two bytes
pub closing-short : (f : Format) → length (shape f).closing ≤ 2
unfolding fboss vpd tiny onie
closing-short Fboss = omega arith
closing-short Vpd = omega arith
closing-short Tiny = omega arith
closing-short Onie = omega arith

Inside : List ℕ → ℕ → ℕ → Type 0
Inside image start end = (start ≤ end) × (end ≤ length image)

rooms : (f : Format) (image : List ℕ) → OnOpened (Inside image) ((shape f).opened image)
unfolding fboss vpd tiny onie Inside
rooms Fboss s = on-opened {P = FbossRoom s} {Q = Inside s} (λ start end r. (omega (arith, r.0, r.1, ap length r.2), omega (arith, r.1))) (fboss_opened s) (fboss-room s)
rooms Vpd s = (omega arith, omega arith)
rooms Tiny s = on-opened {P = TinyRoom s} {Q = Inside s} (λ start end r. (omega (arith, r.0, r.1, r.2), omega (arith, r.1, r.3))) (tiny_opened s) (tiny-room s)
rooms Onie s = on-opened {P = OnieRoom s} {Q = Inside s} (λ start end r. (omega (arith, r.starts, r.ends), omega (arith, r.ends, r.inside))) (onie_opened s) (onie-room s)

-- the room of the entries lies inside the image
pub room-inside : (f : Format) (image : List ℕ) (start end : ℕ) → (shape f).opened image ≡ Ok (start, end) → (start ≤ end) × (end ≤ length image)
unfolding Inside
room-inside f image start end e = rw e at (rooms f image)

-- what a format asks of its room is refused as a length that is wrong: 5, at a place of the header
pub filled-five : (f : Format) (p end n q : ℕ) → (shape f).filled p end ≡ faulty n q → (n ≡ 5) × (q ≤ 9)
unfolding fboss vpd tiny onie onie_filled
filled-five Fboss p end n q e = let z : ◌≡◌ {A = ℕ} 0 1 = cc in absurd (omega arith)
filled-five Vpd p end n q e = let z : ◌≡◌ {A = ℕ} 0 1 = cc in absurd (omega arith)
filled-five Tiny p end n q e = let z : ◌≡◌ {A = ℕ} 0 1 = cc in absurd (omega arith)
filled-five Onie p end n q e = go (eqb (p + 6) end) e
  where
    go : (b : Bool) → if b (λ _. fine) (λ _. faulty 5 9) ≡ faulty n q → (n ≡ 5) × (q ≤ 9)
    go true e = let z : ◌≡◌ {A = ℕ} 0 1 = cc in absurd (omega arith)
    go false e = let a : n ≡ 5 = cc in let b : q ≡ 9 = cc in (a, omega arith)
