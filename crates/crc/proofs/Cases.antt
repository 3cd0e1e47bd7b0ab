-- Cases of the checks, as one computed statement over a list: those of 01, Both sides of each line, that are marked P, the 8-bit check of the digits and from the start FFh,
-- and the 32-bit check (02, ONIE images and edition 3); and cases of the mirror, as another.
-- Assumes nothing.
use mathlib.Core.Path.{◌≡◌, refl}
use mathlib.Core.List.{List, [], ◌∷◌, map}
use Prim.Native.Nat.{ℕ}
use Rattle.crc.specs.Crc.{check16_of, check8_of, check32_of, check_of, byte_in, single_bit, mirror, polynomial32}

-- A case: the check, the bytes that it is taken over, and what it gives.
pub record Case : Type 0 where
  pub check : List ℕ → ℕ
  pub bytes : List ℕ
  pub gives : ℕ

-- The text "123456789".
abbrev pub digits : List ℕ
digits = 0x31 ∷ 0x32 ∷ 0x33 ∷ 0x34 ∷ 0x35 ∷ 0x36 ∷ 0x37 ∷ 0x38 ∷ 0x39 ∷ []

-- An ONIE image with no entry, up to its check: the header, and the code and the length of the check.
abbrev pub bare : List ℕ
bare = 0x54 ∷ 0x6C ∷ 0x76 ∷ 0x49 ∷ 0x6E ∷ 0x66 ∷ 0x6F ∷ 0x00 ∷ 0x01 ∷ 0x00 ∷ 0x06 ∷ 0xFE ∷ 0x04 ∷ []

-- The empty message, "A" and the digits by 16 bits; a Tiny header and the digits by 8, from the starts 00h and FFh; the empty message, "A", the digits and an ONIE image by 32.
abbrev pub cases : List Case
cases =
    record { check = check16_of; bytes = []; gives = 0x1D0F }
    ∷ record { check = check16_of; bytes = 0x41 ∷ []; gives = 0x9479 }
    ∷ record { check = check16_of; bytes = digits; gives = 0xE5CC }
    ∷ record { check = check8_of 0; bytes = 0x56 ∷ 0x02 ∷ 0x04 ∷ []; gives = 0x6F }
    ∷ record { check = check8_of 0; bytes = digits; gives = 0xF4 }
    ∷ record { check = check8_of 0xFF; bytes = 0x56 ∷ 0x02 ∷ 0x04 ∷ []; gives = 0x44 }
    ∷ record { check = check8_of 0xFF; bytes = digits; gives = 0xFB }
    ∷ record { check = check32_of; bytes = []; gives = 0 }
    ∷ record { check = check32_of; bytes = 0x41 ∷ []; gives = 0xD3D99E8B }
    ∷ record { check = check32_of; bytes = digits; gives = 0xCBF43926 }
    ∷ record { check = check32_of; bytes = bare; gives = 0xD4431C18 }
    ∷ []

-- Each case's check gives what the case says.
pub cases-hold : map (λ c. c.check c.bytes) cases ≡ map (λ c. c.gives) cases
unfolding check16_of check8_of check32_of check_of byte_in single_bit mirror
cases-hold = refl

-- A case of the mirror: how many bits, the number, and what it gives.
pub record MirrorCase : Type 0 where
  pub bits : ℕ
  pub number : ℕ
  pub gives : ℕ

-- No bits; one; the lowest of eight, the highest and the next one, which is not counted; a byte that is no mirror of itself; the same of thirty-two bits, and the polynomial.
abbrev pub mirror-cases : List MirrorCase
mirror-cases =
    record { bits = 0; number = 1; gives = 0 }
    ∷ record { bits = 1; number = 3; gives = 1 }
    ∷ record { bits = 8; number = 0; gives = 0 }
    ∷ record { bits = 8; number = 0x01; gives = 0x80 }
    ∷ record { bits = 8; number = 0x80; gives = 0x01 }
    ∷ record { bits = 8; number = 0x100; gives = 0 }
    ∷ record { bits = 8; number = 0x1D; gives = 0xB8 }
    ∷ record { bits = 8; number = 0xFF; gives = 0xFF }
    ∷ record { bits = 32; number = 1; gives = 0x80000000 }
    ∷ record { bits = 32; number = 0x80000000; gives = 1 }
    ∷ record { bits = 32; number = 0x100000000; gives = 0 }
    ∷ record { bits = 32; number = polynomial32; gives = 0xEDB88320 }
    ∷ []

-- Each case's mirror is what the case says.
pub mirror-cases-hold : map (λ c. mirror c.bits c.number) mirror-cases ≡ map (λ c. c.gives) mirror-cases
unfolding mirror
mirror-cases-hold = refl
