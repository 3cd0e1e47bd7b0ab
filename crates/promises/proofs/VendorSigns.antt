-- Bytes and the offsets that they say.
-- Assumes nothing.
use Prim.Native.Nat.{ℕ, suc, ◌+◌, ◌-◌, ◌≤◌, ◌<◌}
use mathlib.Core.Path.{◌≡◌, refl, ap, sym, ◌∙◌}
use mathlib.Core.Logic.{inl, inr}
use mathlib.Core.Bool.{Bool, true, false, cond}
use native.Mathlib.Omega.{arith}
use lib.IntN.{ℤ, pos, negsuc, nat_abs, ◌+ℤ◌}
use lib.Dec.{ltb}
use borrow.Author.Tests.{ltb-true, ltb-false, le-ltb}
use Rattle.blocks.specs.Offset.{signed, signed_byte}
use Rattle.blocks.proofs.Signs.{low_signed, high-signed}
use Rattle.promises.specs.Payload.{SaysOffset, SignedByte}
use Rattle.promises.specs.Vendor.{Signs}

-- a byte is low or high
data Half (b : ℕ) : Type 0 where
  low : b < 128 → Half b
  high : 128 ≤ b → Half b

half : (b : ℕ) → Half b
half b = go (ltb b 128) refl
  where
    go : (t : Bool) → ltb b 128 ≡ t → Half b
    go true q = low (ltb-true b 128 q)
    go false q = high (ltb-false b 128 q)

-- ---- from bytes to numbers

says : (b : ℕ) → b < 256 → SaysOffset b (signed b)
says b byte = go (half b)
  where
    go : Half b → SaysOffset b (signed b)
    go (low lt) = inl (lt, low_signed b lt)
    go (high le) =
        let back : 256 - suc (255 - b) ≡ b = omega arith in
        inr (le, byte, ap (λ (z : ℤ). z +ℤ pos 256) (high-signed b le) ∙ rw (le-ltb 256 (suc (255 - b)) (omega arith), back))

-- of any number, though only a byte says one
pub small : (b : ℕ) → SignedByte (signed b)
small b = go (half b)
  where
    go : Half b → SignedByte (signed b)
    go (low lt) = rw (low_signed b lt) lt
    go (high le) = rw (high-signed b le) (omega arith)

back : (b : ℕ) → b < 256 → signed_byte (signed b) ≡ b
back b byte = go (half b)
  where
    go : Half b → signed_byte (signed b) ≡ b
    go (low lt) = ap signed_byte (low_signed b lt)
    go (high le) = ap signed_byte (high-signed b le) ∙ omega arith

-- a byte says one number alone
pub says-one : (b : ℕ) (z : ℤ) → SaysOffset b z → signed b ≡ z
says-one b z (inl h) = low_signed b h.0 ∙ sym h.1
says-one b (pos n) (inr h) = let q : n + 256 ≡ b = ap nat_abs h.2 in absurd (omega (arith, h.1))
says-one b (negsuc n) (inr h) = high-signed b h.0 ∙ go (ltb 256 (suc n)) refl h.2
  where
    go : (t : Bool) → ltb 256 (suc n) ≡ t → cond t (negsuc (suc n - 257)) (pos (256 - suc n)) ≡ pos b → negsuc (255 - b) ≡ negsuc n
    go true q e = let z : ◌≡◌ {A = ℕ} 0 1 = cc in absurd (omega arith)
    go false q e = ap negsuc (let d : 256 - suc n ≡ b = ap nat_abs e in omega (arith, ltb-false 256 (suc n) q, h.0))

-- ---- from numbers to bytes

byte : (z : ℤ) → SignedByte z → signed_byte z < 256
byte (pos n) h = omega arith
byte (negsuc n) h = omega arith

forth : (z : ℤ) → SignedByte z → signed (signed_byte z) ≡ z
forth (pos n) h = low_signed n h
forth (negsuc n) h = high-signed (255 - n) (omega arith) ∙ ap negsuc (omega arith)

pub byte-says : (z : ℤ) → SignedByte z → SaysOffset (signed_byte z) z
byte-says z h = rw (forth z h) at (says (signed_byte z) (byte z h))

pub signs : Signs
signs = record { says = says; signs = λ b byte. small b; back = back; byte = byte; forth = forth }
