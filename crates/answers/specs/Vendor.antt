-- Vendor blocks as C sees them (docs/C-INTERFACE.md): the packed answer, the block's words, the words of offsets and of piece lengths, and what stays.
-- Assumes nothing.
use Rattle.std.specs.Prelude.{ℕ, ◌+◌, ◌*◌, ◌-◌, ◌≤◌, ◌<◌, ◌≡◌, List, [], ◌∷◌, ◌++◌, length, drop, ℤ, pos, negsuc, ltb, Ok}
use Rattle.layout.specs.Bytes.{if, refusal}
use Rattle.layout.specs.Calls.{told_refusal}
use Rattle.layout.specs.Write.{word}
use Rattle.layout.specs.Each.{Each}
use Rattle.blocks.specs.declared.Offsets.{Offsets}
use Rattle.blocks.specs.declared.Block.{Block}
use Rattle.blocks.specs.Offset.{signed_byte}
use Rattle.blocks.specs.Vendor.{read_vendor, write_vendor}
use Rattle.records.specs.Packed.{packed}
use Rattle.records.specs.Words.{words_bytes}
use Rattle.records.specs.Exports.{vendor_read_call, vendor_write_call}
use Rattle.promises.specs.Words.{IsRefused}
use Rattle.promises.specs.Numbers.{image_numbers}
use Rattle.promises.specs.Payload.{SignedBytes}
use Rattle.promises.specs.Vendor.{tells_vendor, tells_vendor_write}
use Rattle.answers.specs.Whole.{Whole}
use Rattle.answers.specs.Lent.{RefusedAnswer}
use Rattle.answers.specs.FromC.{OneOf}

-- ---- how C reads a block

-- a word as a signed number of 32 bits: itself below 2^31, and else 2^32 less. `negsuc n` is -(n + 1)
abbrev pub signed_of : ℕ → ℤ
signed_of w = if (ltb w 2147483648) (λ _. pos w) (λ _. negsuc (4294967295 - w))

-- twelve words say a block: the serial's place and length, the block's, and the eight offsets
pub record SaysBlock (bytes : List ℕ) (b : Block) : Type 0 where
  pub place_of_serial : word 0 bytes ≡ b.serial.place.0
  pub length_of_serial : word 4 bytes ≡ b.serial.len
  pub place_of_block : word 8 bytes ≡ b.block.place.0
  pub length_of_block : word 12 bytes ≡ b.block.len
  pub c_west_in : signed_of (word 16 bytes) ≡ b.offsets.c_west_in
  pub c_west_out : signed_of (word 20 bytes) ≡ b.offsets.c_west_out
  pub c_east_in : signed_of (word 24 bytes) ≡ b.offsets.c_east_in
  pub c_east_out : signed_of (word 28 bytes) ≡ b.offsets.c_east_out
  pub l_west_in : signed_of (word 32 bytes) ≡ b.offsets.l_west_in
  pub l_west_out : signed_of (word 36 bytes) ≡ b.offsets.l_west_out
  pub l_east_in : signed_of (word 40 bytes) ≡ b.offsets.l_east_in
  pub l_east_out : signed_of (word 44 bytes) ≡ b.offsets.l_east_out

-- the export answers as the call; but 12 at 0, after every other refusal, where less than a block is lent
pub record VendorLent (f e : ℕ) (img buffer m : List ℕ) : Type 0 where
  pub whole : 48 ≤ length m → (vendor_read_call f e img buffer m).answer ≡ packed (tells_vendor f e img buffer)
  pub refused : IsRefused (tells_vendor f e img buffer) → (vendor_read_call f e img buffer m).answer ≡ packed (tells_vendor f e img buffer)
  pub short : length m < 48 → (tells_vendor f e img buffer).number ≡ 0 → (vendor_read_call f e img buffer m).answer ≡ packed (told_refusal (refusal 12 0))
  -- where a block is lent and nothing is refused, the buffer is the call's, the block stands in the first 48 bytes, and the bytes past it stay
  pub gives : (n : ℕ) (b : Block) → 48 ≤ length m → (read_vendor f e img buffer).answer ≡ Ok (n, b) →
      ((vendor_read_call f e img buffer m).payload ≡ (read_vendor f e img buffer).memory)
      × SaysBlock (vendor_read_call f e img buffer m).block b
      × (drop 48 (vendor_read_call f e img buffer m).block ≡ drop 48 m)

-- ---- how C lends offsets and piece lengths

-- offset k in bits 8k to 8k + 7, as its signed byte
abbrev pub offsets_word : Offsets → ℕ
offsets_word o =
    signed_byte o.c_west_in
    + signed_byte o.c_west_out * 256
    + signed_byte o.c_east_in * 65536
    + signed_byte o.c_east_out * 16777216
    + signed_byte o.l_west_in * 4294967296
    + signed_byte o.l_west_out * 1099511627776
    + signed_byte o.l_east_in * 281474976710656
    + signed_byte o.l_east_out * 72057594037927936

pub record VendorFromC : Type 0 where
  -- C takes out of each answer what the call tells
  pub whole_read : (f e : ℕ) (img buffer : List ℕ) → Whole (tells_vendor f e img buffer)
  pub whole_write : (f e : ℕ) (serial : List ℕ) (o : Offsets) (pieces out : List ℕ) → Whole (tells_vendor_write f e serial o pieces out)
  -- the numbers that each export can give
  pub read_numbers : (f e : ℕ) (img buffer m : List ℕ) → OneOf (17 ∷ 18 ∷ 19 ∷ 20 ∷ 12 ∷ image_numbers) (vendor_read_call f e img buffer m).answer
  pub write_numbers : (f e : ℕ) (serial : List ℕ) (offsets : ℕ) (pieces out : List ℕ) → OneOf (16 ∷ 1 ∷ 2 ∷ 18 ∷ 12 ∷ []) (vendor_write_call f e serial offsets pieces out).answer
  -- a refused export changes nothing
  pub unread : (f e : ℕ) (img buffer m : List ℕ) → RefusedAnswer (vendor_read_call f e img buffer m).answer →
      ((vendor_read_call f e img buffer m).payload ≡ buffer) × ((vendor_read_call f e img buffer m).block ≡ m)
  pub unwritten : (f e : ℕ) (serial : List ℕ) (offsets : ℕ) (pieces out : List ℕ) → RefusedAnswer (vendor_write_call f e serial offsets pieces out).answer →
      (vendor_write_call f e serial offsets pieces out).memory ≡ out
  pub read : (f e : ℕ) (img buffer m : List ℕ) → VendorLent f e img buffer m
  -- where offsets and piece lengths are laid out so, each length below 2^32, the export answers as the call, and the output is the call's; a last length that is cut short counts as none
  pub write : (f e : ℕ) (serial : List ℕ) (o : Offsets) (lengths cut out : List ℕ) → SignedBytes o → Each (λ n. n < 4294967296) lengths → length cut < 4 →
      let g = vendor_write_call f e serial (offsets_word o) (words_bytes lengths ++ cut) out in
      (g.answer ≡ packed (tells_vendor_write f e serial o lengths out)) × (g.memory ≡ (write_vendor f e serial o lengths out).memory)
