-- A payload over several FDh entries of an ONIE image: how it is joined, what it says, and how it is made (02, "Vendor blocks for the optics lab"; 003).
-- Assumes nothing.
use Rattle.std.specs.Prelude.{ℕ, ◌+◌, ◌*◌, ◌-◌, List, [], ◌∷◌, ◌++◌, Bool, ◌&&◌, length, get_or, take, drop, leb, eqb, Ok, Err}
use Rattle.crc.specs.Crc.{check32_of}
use Rattle.layout.specs.Bytes.{if, all, same_bytes, part, part_at}
use Rattle.layout.specs.Onie.{four_bytes}
use Rattle.layout.specs.Walk.{Content}
use Rattle.blocks.specs.declared.Offsets.{Offsets}
use Rattle.blocks.specs.declared.Block.{Block}
use Rattle.blocks.specs.Answers.{Said}
use Rattle.blocks.specs.Offset.{offsets_in, offset_bytes}

-- ---- the payload of an image

-- what the value of a matching entry begins with: CESNET's enterprise number 8057 in four bytes, and 00
abbrev pub prefix : List ℕ
prefix = 0x00 ∷ 0x00 ∷ 0x1F ∷ 0x79 ∷ 0x00 ∷ []

-- an entry holds a piece of the payload: it is an FDh whose value begins so
unfoldable pub matches : Content → Bool
matches c = eqb c.code 0xFD && same_bytes (part 0 5 c.value) prefix

-- the matching entries, in image order
unfoldable pub matching : List Content → List Content
matching [] = []
matching (c ∷ cs) = if (matches c) (λ _. c ∷ matching cs) (λ _. matching cs)

-- the values of matching entries without the prefix, one after another
unfoldable pub joined : List Content → List ℕ
joined [] = []
joined (c ∷ cs) = drop 5 c.value ++ joined cs

-- ---- what a payload says

-- the one-byte length of the serial, which follows it
abbrev pub serial_length : List ℕ → ℕ
serial_length s = get_or s 0 0

-- the two-byte length of the block, high byte first, after the serial
abbrev pub block_length : List ℕ → ℕ
block_length s = get_or s (1 + serial_length s) 0 * 256 + get_or s (1 + serial_length s + 1) 0

-- where the block stands
abbrev pub block_place : List ℕ → ℕ
block_place s = 1 + serial_length s + 2

-- a payload is exactly as long as its parts: a length byte, the serial, two length bytes, the block, and the check. A byte of a length that is missing counts as 0, and then the payload is too short
unfoldable pub measured : List ℕ → Bool
measured s = eqb (length s) (1 + serial_length s + 2 + block_length s + 4)

-- the last four bytes are ONIE's CRC-32 over all before them, high byte first
unfoldable pub checked : List ℕ → Bool
checked s = same_bytes (part (length s - 4) 4 s) (four_bytes (check32_of (take (length s - 4) s)))

-- the block is that of a dual-band amplifier: nine bytes, version 00 and eight offsets
unfoldable pub amplifier : List ℕ → Bool
amplifier s = eqb (block_length s) 9 && eqb (get_or s (block_place s) 0) 0x00

-- what it says: where its serial and its block stand, and the offsets after the version
abbrev pub block_of : List ℕ → Block
block_of s =
    record {
      serial = part_at 1 (serial_length s);
      block = part_at (block_place s) (block_length s);
      offsets = offsets_in (drop (block_place s + 1) s);
    }

-- what a payload comes to: 18, 19, 20, or what it says
unfoldable pub payload_says : List ℕ → Said
payload_says s =
    if (measured s)
    (λ _. if (checked s)
    (λ _. if (amplifier s) (λ _. Ok (block_of s)) (λ _. Err 20))
    (λ _. Err 19))
    (λ _. Err 18)

-- ---- what is written

-- all of a payload before its check: the serial with its length, and a block of nine bytes, version 00 and the offsets
abbrev pub front : List ℕ → Offsets → List ℕ
front serial o = length serial ∷ (serial ++ (0x00 ∷ 0x09 ∷ 0x00 ∷ offset_bytes o))

-- the payload of a serial and offsets, with the right check
unfoldable pub payload_of : List ℕ → Offsets → List ℕ
payload_of serial o = front serial o ++ four_bytes (check32_of (front serial o))

-- the FDh values, one after another: a payload cut into pieces of these lengths, the prefix before each
unfoldable pub cut_into : List ℕ → List ℕ → List ℕ
cut_into [] s = []
cut_into (n ∷ ns) s = prefix ++ (take n s ++ cut_into ns (drop n s))

-- the numbers of a list, added
abbrev pub sum : List ℕ → ℕ
sum [] = 0
sum (n ∷ ns) = n + sum ns

-- a serial has a length of one byte, a piece is at most what a value has beside the prefix, and the pieces are the whole payload, which is 16 bytes longer than its serial
unfoldable pub writable : List ℕ → List ℕ → Bool
writable serial pieces = leb (length serial) 255 && all (λ n. leb n 250) pieces && eqb (sum pieces) (16 + length serial)
