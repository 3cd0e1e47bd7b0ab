-- What a vendor's payload is, said as a grammar (02, "Vendor blocks for the optics lab"; 003). Nothing here reads: a list of bytes is made so, or it is not. Shared with the definitions of the calls: the check
-- alone (`check32_of` and the four bytes that say it).
-- Assumes nothing.
use Rattle.std.specs.Prelude.{ℕ, ◌+◌, ◌*◌, ◌≤◌, ◌<◌, ◌≡◌, List, [], ◌∷◌, ◌++◌, ◌⊎◌, length, ℤ, pos, negsuc, ◌+ℤ◌}
use Rattle.crc.specs.Crc.{check32_of}
use Rattle.layout.specs.Onie.{four_bytes}
use Rattle.layout.specs.Walk.{Content}
use Rattle.blocks.specs.declared.Offsets.{Offsets}

-- ---- the pieces of a list of entries

-- an entry holds this piece: it is an FDh whose value is 00 00 1F 79 00 and the piece
abbrev pub Holds : Content → List ℕ → Type 0
Holds c piece = (c.code ≡ 0xFD) × (c.value ≡ 0x00 ∷ 0x00 ∷ 0x1F ∷ 0x79 ∷ 0x00 ∷ piece)

-- these are the pieces that entries hold, in order; an entry that holds none is passed over
pub data PiecesOf : List Content → List (List ℕ) → Type 0 where
  no_entry : PiecesOf [] []
  holds : {c : Content} {cs : List Content} {piece : List ℕ} {pieces : List (List ℕ)} → Holds c piece → PiecesOf cs pieces → PiecesOf (c ∷ cs) (piece ∷ pieces)
  passes : {c : Content} {cs : List Content} {pieces : List (List ℕ)} → ((piece : List ℕ) → Holds c piece → ⊥) → PiecesOf cs pieces → PiecesOf (c ∷ cs) pieces

-- pieces one after another
abbrev pub whole : List (List ℕ) → List ℕ
whole [] = []
whole (piece ∷ pieces) = piece ++ whole pieces

-- there is one at least
abbrev pub Some : List (List ℕ) → Type 0
Some [] = ⊥
Some (piece ∷ pieces) = Unit {0}

-- lengths add up to this number
pub data AddUp : List ℕ → ℕ → Type 0 where
  add_none : AddUp [] 0
  add_one : {n total : ℕ} {lengths : List ℕ} → AddUp lengths total → AddUp (n ∷ lengths) (n + total)

-- ---- a payload

-- a payload that is exactly as long as its parts: the serial with its length in one byte, the block with its length in two, high byte first, and four bytes
pub record Parts (payload : List ℕ) : Type 0 where
  pub serial : List ℕ
  pub high : ℕ
  pub low : ℕ
  pub block : List ℕ
  pub check : List ℕ
  pub is : payload ≡ (length serial ∷ (serial ++ (high ∷ low ∷ block))) ++ check
  pub sized : length block ≡ high * 256 + low
  pub four : length check ≡ 4

-- its check is right: the four bytes of ONIE's CRC-32 over all before them
abbrev pub RightCheck : {payload : List ℕ} → Parts payload → Type 0
RightCheck x = x.check ≡ four_bytes (check32_of (length x.serial ∷ (x.serial ++ (x.high ∷ x.low ∷ x.block))))

-- ---- a block

-- a byte says this offset: itself below 128, and from 128 on 256 less
abbrev pub SaysOffset : ℕ → ℤ → Type 0
SaysOffset b z = ((b < 128) × (z ≡ pos b)) ⊎ ((128 ≤ b) × (b < 256) × (z +ℤ pos 256 ≡ pos b))

-- a block is that of a dual-band amplifier: version 00 and eight bytes, in 003's order
pub record Amplifier (block : List ℕ) : Type 0 where
  pub b0 : ℕ
  pub b1 : ℕ
  pub b2 : ℕ
  pub b3 : ℕ
  pub b4 : ℕ
  pub b5 : ℕ
  pub b6 : ℕ
  pub b7 : ℕ
  pub is : block ≡ 0x00 ∷ b0 ∷ b1 ∷ b2 ∷ b3 ∷ b4 ∷ b5 ∷ b6 ∷ b7 ∷ []

-- it says these offsets
pub record SaysOffsets {block : List ℕ} (x : Amplifier block) (o : Offsets) : Type 0 where
  pub c_west_in : SaysOffset x.b0 o.c_west_in
  pub c_west_out : SaysOffset x.b1 o.c_west_out
  pub c_east_in : SaysOffset x.b2 o.c_east_in
  pub c_east_out : SaysOffset x.b3 o.c_east_out
  pub l_west_in : SaysOffset x.b4 o.l_west_in
  pub l_west_out : SaysOffset x.b5 o.l_west_out
  pub l_east_in : SaysOffset x.b6 o.l_east_in
  pub l_east_out : SaysOffset x.b7 o.l_east_out

-- ---- offsets

-- a number that a signed byte can be: -128 to 127
abbrev pub SignedByte : ℤ → Type 0
SignedByte (pos n) = n < 128
SignedByte (negsuc n) = n < 128

abbrev pub SignedBytes : Offsets → Type 0
SignedBytes o =
    SignedByte o.c_west_in
    × SignedByte o.c_west_out
    × SignedByte o.c_east_in
    × SignedByte o.c_east_out
    × SignedByte o.l_west_in
    × SignedByte o.l_west_out
    × SignedByte o.l_east_in
    × SignedByte o.l_east_out
