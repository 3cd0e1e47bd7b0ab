-- What is written (01, "Writing, editing, walking"; 02, "ONIE images and edition 3"): the bytes of an image of each format, with every length in its shortest form.
-- Assumes nothing.
use Rattle.std.specs.Prelude.{ℕ, ◌+◌, ◌*◌, ◌≤◌, ◌<◌, ◌≡◌, List, [], ◌∷◌, ◌++◌, length, ltb}
use Rattle.crc.specs.Crc.{check16_of, check8_of, check32_of}
use Rattle.layout.specs.declared.Format.{Format}
use Rattle.layout.specs.declared.Format.TheVariants.{Fboss, Vpd, Tiny, Onie}
use Rattle.layout.specs.Bytes.{if}
use Rattle.layout.specs.Walk.{Content}
use Rattle.layout.specs.Each.{Each}
use Rattle.laws.specs.Grammar.{grammar}

-- the image of these bytes of entries: header, entries, the end, the right check
pub data Written : Format → List ℕ → List ℕ → Type 0 where
  -- code 250 with length 2 ends it, and the check has its high byte first
  fboss : (entries : List ℕ) (high low : ℕ) → low < 256 → high * 256 + low ≡ check16_of (0xFB ∷ 0xFB ∷ 0x05 ∷ 0xFF ∷ entries) →
      Written Fboss entries (0xFB ∷ 0xFB ∷ 0x05 ∷ 0xFF ∷ (entries ++ (250 ∷ 2 ∷ high ∷ low ∷ [])))
  -- the end is 00h
  vpd : (entries : List ℕ) → Written Vpd entries (entries ++ (0x00 ∷ []))
  -- the total length counts header, entries and check byte
  tiny : (entries : List ℕ) →
      Written Tiny entries (0x56 ∷ 0x02 ∷ (length entries + 4) ∷ (entries ++ (check8_of 0 (0x56 ∷ 0x02 ∷ (length entries + 4) ∷ entries) ∷ [])))
  -- TlvInfo and a zero, 01h, the length of all after these eleven bytes, high byte first; code FEh with length 4 ends it, and the check, over all before it, has its high byte first
  onie : (entries : List ℕ) (high low w x y z : ℕ) → low < 256 → high * 256 + low ≡ length entries + 6 → x < 256 → y < 256 → z < 256 →
      w * 16777216 + x * 65536 + y * 256 + z
      ≡ check32_of (0x54 ∷ 0x6C ∷ 0x76 ∷ 0x49 ∷ 0x6E ∷ 0x66 ∷ 0x6F ∷ 0x00 ∷ 0x01 ∷ high ∷ low ∷ (entries ++ (0xFE ∷ 0x04 ∷ []))) →
      Written Onie entries
      (0x54 ∷ 0x6C ∷ 0x76 ∷ 0x49 ∷ 0x6E ∷ 0x66 ∷ 0x6F ∷ 0x00 ∷ 0x01 ∷ high ∷ low ∷ (entries ++ (0xFE ∷ 0x04 ∷ w ∷ x ∷ y ∷ z ∷ [])))

-- these bytes say a value's length in an entry of this code, and no bytes say it shorter
pub record ShortLength (format : Format) (code : ℕ) (lens : List ℕ) (n : ℕ) : Type 0 where
  pub says : (grammar format).Says code lens n
  pub shortest : (l : List ℕ) → Each (λ b. b < 256) l → (grammar format).Says code l n → length lens ≤ length l

-- these bytes are an entry that says c, and no bytes open it or say its value's length shorter
pub record ShortEntry (format : Format) (bytes : List ℕ) (c : Content) : Type 0 where
  pub front : List ℕ
  pub lens : List ℕ
  pub is : bytes ≡ front ++ (lens ++ c.value)
  pub opens : (grammar format).Opening front c.code c.key
  pub shortest : (l : List ℕ) → Each (λ b. b < 256) l → (grammar format).Opening l c.code c.key → length front ≤ length l
  pub said : ShortLength format c.code lens (length c.value)

-- these bytes are such entries, in this order
pub data ShortEntries (format : Format) : List ℕ → List Content → Type 0 where
  none : ShortEntries format [] []
  also : {c : Content} {cs : List Content} {bytes more : List ℕ} → ShortEntry format bytes c → ShortEntries format more cs → ShortEntries format (bytes ++ more) (c ∷ cs)

-- ---- how long it is

-- how many bytes say a VPD length in its shortest form
abbrev pub vpd_bytes : ℕ → ℕ
vpd_bytes n = if (ltb n 128) (λ _. 1) (λ _. if (ltb n 16384) (λ _. 2) (λ _. if (ltb n 2097152) (λ _. 3) (λ _. 4)))

-- how many bytes say the length n of a value, after an entry's code and key
abbrev pub length_size : Format → ℕ → ℕ → ℕ
length_size Fboss code n = 1
length_size Vpd code n = vpd_bytes n
length_size Tiny code n = if (ltb code 16) (λ _. 1) (λ _. 0)
length_size Onie code n = 1

-- the bytes between an entry's code and its value's length
abbrev pub key_size : Format → List ℕ → ℕ
key_size Fboss key = 0
key_size Vpd key = vpd_bytes (length key) + length key
key_size Tiny key = 0
key_size Onie key = 0

abbrev pub entries_size : Format → List Content → ℕ
entries_size format [] = 0
entries_size format (c ∷ cs) =
    1 + key_size format c.key + length_size format c.code (length c.value) + length c.value + entries_size format cs

-- what stands before the entries, and what after them: FBOSS FA 02 and the check, VPD 00h, Tiny the check, ONIE FE 04 and the check
abbrev pub header_size : Format → ℕ
header_size Fboss = 4
header_size Vpd = 0
header_size Tiny = 3
header_size Onie = 11

abbrev pub end_size : Format → ℕ
end_size Fboss = 4
end_size Vpd = 1
end_size Tiny = 1
end_size Onie = 6

-- an image of so many bytes goes into the output; a Tiny image has at most 255 bytes, and an ONIE image declares at most 2,048 after its header
pub record Fits (format : Format) (size : ℕ) (out : List ℕ) : Type 0 where
  pub room : size ≤ length out
  pub total : format ≡ Tiny → size ≤ 255
  pub declared : format ≡ Onie → size ≤ 11 + 2048
