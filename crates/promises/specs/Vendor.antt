-- Vendor blocks (02, "Vendor blocks for the optics lab"): what a read gives and what it is refused by, that a payload reads the same however it is cut, what a write puts out and what it is refused by, and that what was
-- written reads back.
-- Assumes nothing.
use Rattle.std.specs.Prelude.{ℕ, ◌+◌, ◌*◌, ◌≤◌, ◌<◌, ◌≡◌, List, [], ◌∷◌, ◌++◌, ◌⊎◌, length, take, drop, ℤ, Ok}
use Rattle.layout.specs.declared.Format.TheVariants.{Onie}
use Rattle.layout.specs.Bytes.{part, part_at}
use Rattle.layout.specs.Walk.{Content}
use Rattle.layout.specs.Calls.{Told}
use Rattle.layout.specs.Write.{told_made}
use Rattle.layout.specs.Each.{Each}
use Rattle.blocks.specs.declared.Offsets.{Offsets}
use Rattle.blocks.specs.declared.Block.{Block}
use Rattle.blocks.specs.Offset.{signed, signed_byte}
use Rattle.blocks.specs.Vendor.{read_vendor, told_vended, write_vendor}
use Rattle.promises.specs.Words.{KnownEdition, Serves, Counts, Refuses, IsRefused, Reads, tells_check}
use Rattle.promises.specs.Numbers.{Gives, image_numbers}
use Rattle.promises.specs.Payload.{PiecesOf, whole, Some, AddUp, Parts, RightCheck, SaysOffset, Amplifier, SaysOffsets, SignedByte, SignedBytes}

abbrev pub tells_vendor : ℕ → ℕ → List ℕ → List ℕ → Told
tells_vendor f e image buffer = told_vended (read_vendor f e image buffer).answer

abbrev pub tells_vendor_write : ℕ → ℕ → List ℕ → Offsets → List ℕ → List ℕ → Told
tells_vendor_write f e serial o pieces out = told_made (write_vendor f e serial o pieces out).answer

-- ---- offsets: of all 256 bytes, both ways

pub record Signs : Type 0 where
  pub says : (b : ℕ) → b < 256 → SaysOffset b (signed b)
  pub signs : (b : ℕ) → b < 256 → SignedByte (signed b)
  pub back : (b : ℕ) → b < 256 → signed_byte (signed b) ≡ b
  pub byte : (z : ℤ) → SignedByte z → signed_byte z < 256
  pub forth : (z : ℤ) → SignedByte z → signed (signed_byte z) ≡ z

-- ---- what no vendor call takes: 16, 1, 16, 2, each at 0

pub record VendorAsked : Type 0 where
  pub format : (f e : ℕ) → (f ≡ 4 → ⊥) →
      ((image buffer : List ℕ) → Refuses (tells_vendor f e image buffer) 16 0)
      × ((serial : List ℕ) (o : Offsets) (pieces out : List ℕ) → Refuses (tells_vendor_write f e serial o pieces out) 16 0)
  pub edition : (e : ℕ) → (KnownEdition e → ⊥) →
      ((image buffer : List ℕ) → Refuses (tells_vendor 4 e image buffer) 1 0)
      × ((serial : List ℕ) (o : Offsets) (pieces out : List ℕ) → Refuses (tells_vendor_write 4 e serial o pieces out) 1 0)
  pub early : (e : ℕ) → KnownEdition e → e < 3 →
      ((image buffer : List ℕ) → Refuses (tells_vendor 4 e image buffer) 16 0)
      × ((serial : List ℕ) (o : Offsets) (pieces out : List ℕ) → Refuses (tells_vendor_write 4 e serial o pieces out) 16 0)
  pub length : (e : ℕ) → Serves 4 e Onie →
      ((image buffer : List ℕ) → (65536 < length image) ⊎ (65536 < length buffer) → Refuses (tells_vendor 4 e image buffer) 2 0)
      × ((serial : List ℕ) (o : Offsets) (pieces out : List ℕ) → 65536 < length out → Refuses (tells_vendor_write 4 e serial o pieces out) 2 0)

-- ---- read

-- what a payload that is joined comes to, with this buffer: 18, 19, 20, 12, in this order, and else what its parts say
pub record PayloadRule (t : Told) (answer : Block → Type 0) (memory : List ℕ) (payload buffer : List ℕ) : Type 0 where
  pub unmeasured : (Parts payload → ⊥) → Refuses t 18 0
  pub unchecked : (x : Parts payload) → (RightCheck x → ⊥) → Refuses t 19 0
  pub no_amplifier : (x : Parts payload) → RightCheck x → (Amplifier x.block → ⊥) → Refuses t 20 0
  pub too_short : (x : Parts payload) → RightCheck x → Amplifier x.block → length buffer < length payload → Refuses t 12 0
  -- the payload stands in front of what the buffer had, and the places of its parts count from its first byte
  pub given : (x : Parts payload) → RightCheck x → (a : Amplifier x.block) (o : Offsets) → SaysOffsets a o → length payload ≤ length buffer →
      answer (record { serial = part_at 1 (length x.serial); block = part_at (1 + length x.serial + 2) (length x.block); offsets = o })
      × (memory ≡ payload ++ drop (length payload) buffer)

-- of an image whose list says cs: 17 where no entry holds a piece, and else what the pieces come to
pub record VendorRule (e : ℕ) (image buffer : List ℕ) (cs : List Content) : Type 0 where
  pub none : PiecesOf cs [] → Refuses (tells_vendor 4 e image buffer) 17 0
  pub some : (pieces : List (List ℕ)) → Some pieces → PiecesOf cs pieces →
      PayloadRule (tells_vendor 4 e image buffer) (λ b. (read_vendor 4 e image buffer).answer ≡ Ok ((length (whole pieces)), b)) (read_vendor 4 e image buffer).memory (whole pieces) buffer

pub record VendorReads : Type 0 where
  -- an image that the check refuses is refused alike
  pub refused : (e : ℕ) (image buffer : List ℕ) → length buffer ≤ 65536 → IsRefused (tells_check 4 e image) → tells_vendor 4 e image buffer ≡ tells_check 4 e image
  -- every list of entries has pieces, and no others
  pub pieces : (cs : List Content) → (pieces : List (List ℕ)) × PiecesOf cs pieces
  pub same : (cs : List Content) (pieces others : List (List ℕ)) → PiecesOf cs pieces → PiecesOf cs others → pieces ≡ others
  pub accepted : (e : ℕ) (image buffer : List ℕ) (cs : List Content) → length buffer ≤ 65536 → Reads 4 e image cs → VendorRule e image buffer cs

-- with room enough one payload reads the same in every accepted image with a piece, however cut and whatever stands between the pieces
abbrev pub SamePayload : Type 0
SamePayload =
    (f e₁ e₂ : ℕ) (image₁ image₂ buffer₁ buffer₂ : List ℕ) (cs₁ cs₂ : List Content) (pieces₁ pieces₂ : List (List ℕ)) →
    Reads f e₁ image₁ cs₁ → PiecesOf cs₁ pieces₁ → Some pieces₁ →
    Reads f e₂ image₂ cs₂ → PiecesOf cs₂ pieces₂ → Some pieces₂ →
    whole pieces₁ ≡ whole pieces₂ →
    length (whole pieces₁) ≤ length buffer₁ → length buffer₁ ≤ 65536 →
    length (whole pieces₂) ≤ length buffer₂ → length buffer₂ ≤ 65536 →
    ((read_vendor f e₁ image₁ buffer₁).answer ≡ (read_vendor f e₂ image₂ buffer₂).answer)
    × ((tells_vendor f e₁ image₁ buffer₁).number ≡ 0 →
    take (length (whole pieces₁)) (read_vendor f e₁ image₁ buffer₁).memory ≡ take (length (whole pieces₁)) (read_vendor f e₂ image₂ buffer₂).memory)

-- ---- write

-- these bytes are values, one after another: for each length the prefix and a piece of so many bytes
pub data Values : List ℕ → List (List ℕ) → List ℕ → Type 0 where
  no_value : Values [] [] []
  value : {lengths : List ℕ} {piece : List ℕ} {pieces : List (List ℕ)} {rest : List ℕ} → Values lengths pieces rest →
      Values (length piece ∷ lengths) (piece ∷ pieces) ((0x00 ∷ 0x00 ∷ 0x1F ∷ 0x79 ∷ 0x00 ∷ piece) ++ rest)

-- a write that is taken puts out n bytes: the values of a payload with the right check, whose parts are the serial and a block of the offsets
pub record VendorWritten (f e : ℕ) (serial : List ℕ) (o : Offsets) (lengths out : List ℕ) (n : ℕ) : Type 0 where
  pub size : n ≡ 5 * length lengths + (16 + length serial)
  pub pieces : List (List ℕ)
  pub values : List ℕ
  pub cut : Values lengths pieces values
  pub parts : Parts (whole pieces)
  pub right : RightCheck parts
  pub serial_is : parts.serial ≡ serial
  pub block : Amplifier parts.block
  pub offsets : SaysOffsets block o
  -- bytes past the values stay
  pub filled : (write_vendor f e serial o lengths out).memory ≡ values ++ drop n out
  pub long : n ≡ length values

-- it is taken exactly where the serial has at most 255 bytes, a piece at most 250, the pieces are the payload, which is 16 bytes longer than its serial, and the values fit
pub record VendorWrites : Type 0 where
  pub serial : (e : ℕ) (serial : List ℕ) (o : Offsets) (lengths out : List ℕ) → Serves 4 e Onie → length out ≤ 65536 →
      255 < length serial → Refuses (tells_vendor_write 4 e serial o lengths out) 18 0
  pub piece : (e : ℕ) (serial : List ℕ) (o : Offsets) (lengths out : List ℕ) → Serves 4 e Onie → length out ≤ 65536 →
      (Each (λ n. n ≤ 250) lengths → ⊥) → Refuses (tells_vendor_write 4 e serial o lengths out) 18 0
  pub total : (e : ℕ) (serial : List ℕ) (o : Offsets) (lengths out : List ℕ) → Serves 4 e Onie → length out ≤ 65536 →
      (AddUp lengths (16 + length serial) → ⊥) → Refuses (tells_vendor_write 4 e serial o lengths out) 18 0
  pub room : (e : ℕ) (serial : List ℕ) (o : Offsets) (lengths out : List ℕ) → Serves 4 e Onie → length out ≤ 65536 →
      length serial ≤ 255 → Each (λ n. n ≤ 250) lengths → AddUp lengths (16 + length serial) →
      length out < 5 * length lengths + (16 + length serial) → Refuses (tells_vendor_write 4 e serial o lengths out) 12 0
  pub taken : (e : ℕ) (serial : List ℕ) (o : Offsets) (lengths out : List ℕ) → Serves 4 e Onie → length out ≤ 65536 →
      length serial ≤ 255 → Each (λ n. n ≤ 250) lengths → AddUp lengths (16 + length serial) →
      5 * length lengths + (16 + length serial) ≤ length out → Counts (tells_vendor_write 4 e serial o lengths out) (5 * length lengths + (16 + length serial))
  pub puts : (f e : ℕ) (serial : List ℕ) (o : Offsets) (lengths out : List ℕ) (n : ℕ) → SignedBytes o → Counts (tells_vendor_write f e serial o lengths out) n →
      VendorWritten f e serial o lengths out n

-- what was written reads back where the matching entries are those values, in order: the same serial and the same offsets
abbrev pub VendorRoundTrip : Type 0
VendorRoundTrip =
    (f e : ℕ) (serial : List ℕ) (o : Offsets) (lengths out : List ℕ) (n : ℕ) → SignedBytes o → Counts (tells_vendor_write f e serial o lengths out) n →
    (e' : ℕ) (image buffer : List ℕ) (cs : List Content) (pieces : List (List ℕ)) → Reads f e' image cs → PiecesOf cs pieces →
    Values lengths pieces (take n (write_vendor f e serial o lengths out).memory) →
    16 + length serial ≤ length buffer → length buffer ≤ 65536 →
    ((read_vendor f e' image buffer).answer
    ≡ Ok ((16 + length serial), (record { serial = part_at 1 (length serial); block = part_at (1 + length serial + 2) 9; offsets = o })))
    × (part 1 (length serial) (read_vendor f e' image buffer).memory ≡ serial)

-- ---- refused

-- the numbers that each call can give, and that a refused one changes nothing
pub record VendorRefused : Type 0 where
  pub read : (f e : ℕ) (image buffer : List ℕ) → Gives (17 ∷ 18 ∷ 19 ∷ 20 ∷ 12 ∷ image_numbers) (tells_vendor f e image buffer)
  pub written : (f e : ℕ) (serial : List ℕ) (o : Offsets) (pieces out : List ℕ) → Gives (16 ∷ 1 ∷ 2 ∷ 18 ∷ 12 ∷ []) (tells_vendor_write f e serial o pieces out)
  pub buffer : (f e : ℕ) (image buffer : List ℕ) → IsRefused (tells_vendor f e image buffer) → (read_vendor f e image buffer).memory ≡ buffer
  pub output : (f e : ℕ) (serial : List ℕ) (o : Offsets) (pieces out : List ℕ) → IsRefused (tells_vendor_write f e serial o pieces out) → (write_vendor f e serial o pieces out).memory ≡ out
