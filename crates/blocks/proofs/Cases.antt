-- Worked cases of vendor blocks: what a case is, what the definitions answer, and the cases of offsets and of 003's example, as one statement over a list
-- (02, "Vendor blocks for the optics lab"; 003). The files Cases with a subject in their name have further lists, and one statement each.
-- Assumes nothing.
use Prim.Native.Nat.{ℕ, ◌-◌}
use mathlib.Core.Path.{◌≡◌, refl}
use mathlib.Core.List.{List, [], ◌∷◌, ◌++◌, map}
use mathlib.Core.Bool.{Bool}
use lib.IntN.{ℤ, pos, negsuc}
use lib.ListN.{length, replicate}
use Rattle.std.specs.Prelude.{Ok, Err}
use Rattle.crc.specs.Crc.{check32_of, mirror, check_of, byte_in, single_bit}
use Rattle.layout.specs.declared.Refusal.{Refusal}
use Rattle.layout.specs.Answers.{Made}
use Rattle.layout.specs.Bytes.{all, one_of, same_bytes, part, part_at, refusal}
use Rattle.layout.specs.Shape.{next, coded_head}
use Rattle.layout.specs.Onie.{onie, onie_opened, onie_filled, onie_check, formed, onie_rule}
use Rattle.layout.specs.Editions.{chosen, since_in, names}
use Rattle.layout.specs.Walk.{Content, content, walks, walk}
use Rattle.layout.specs.Read.{sealed, seen_before, reader_rule, fault, judge, complete, read_as, read_image}
use Rattle.layout.specs.Calls.{Told}
use Rattle.layout.specs.Write.{items, Outcome}
use Rattle.layout.proofs.Cases.{text, hex, run, onie_of, those}
use Rattle.blocks.specs.declared.Offsets.{Offsets}
use Rattle.blocks.specs.declared.Block.{Block}
use Rattle.blocks.specs.Answers.{Said, Vended}
use Rattle.blocks.specs.Offset.{signed, signed_byte, offsets_in, offset_bytes}
use Rattle.blocks.specs.Payload.{matches, matching, joined, measured, checked, amplifier, payload_says, payload_of, cut_into, writable}
use Rattle.blocks.specs.Vendor.{asked, Taking, read_vendor, pieces_in, write_vendor}

-- ---- values, entries and answers, in short

-- the number -n, for an n of at least 1
abbrev pub minus : ℕ → ℤ
minus n = negsuc (n - 1)

-- eight offsets, in 003's order
abbrev pub offsets : ℤ → ℤ → ℤ → ℤ → ℤ → ℤ → ℤ → ℤ → Offsets
offsets a b c d e f g h =
    record {
      c_west_in = a;
      c_west_out = b;
      c_east_in = c;
      c_east_out = d;
      l_west_in = e;
      l_west_out = f;
      l_east_in = g;
      l_east_out = h;
    }

abbrev pub zeros : Offsets
zeros = offsets (pos 0) (pos 0) (pos 0) (pos 0) (pos 0) (pos 0) (pos 0) (pos 0)

-- eight that differ, whose bytes are 01 7F 80 81 FE FF 18 9C, and the same in reverse order
abbrev pub varied : Offsets
varied = offsets (pos 1) (pos 127) (minus 128) (minus 127) (minus 2) (minus 1) (pos 24) (minus 100)

abbrev pub reversed : Offsets
reversed = offsets (minus 100) (pos 24) (minus 1) (minus 2) (minus 127) (minus 128) (pos 127) (pos 1)

-- the payload of no serial and the eight that differ, with this check
abbrev pub short_with : List ℕ → List ℕ
short_with check = hex "00 00 09 00 01 7F 80 81 FE FF 18 9C" ++ check

abbrev pub short : List ℕ
short = short_with (hex "60 FF D2 4C")

-- the payload of 003's example, the serial DQ000MPW and offsets that are all 0, with this check
abbrev pub example_with : List ℕ → List ℕ
example_with check = hex "08 44 51 30 30 30 4D 50 57 00 09 00 00 00 00 00 00 00 00 00" ++ check

abbrev pub example : List ℕ
example = example_with (hex "02 60 51 4B")

-- the value of an FDh that holds this piece of a payload
abbrev pub value : List ℕ → List ℕ
value s = hex "00 00 1F 79 00" ++ s

-- an FDh entry of this value, and one that holds this piece
abbrev pub extension : List ℕ → List ℕ
extension v = 0xFD ∷ length v ∷ v

abbrev pub piece : List ℕ → List ℕ
piece s = extension (value s)

-- what a payload says that has a serial of n bytes, and a block of nine bytes at p
abbrev pub block_said : ℕ → ℕ → Offsets → Block
block_said n p o = record { serial = part_at 1 n; block = part_at p 9; offsets = o }

abbrev pub unread : ℕ → ℕ → Vended
unread n p = Err (refusal n p)

-- what an entry of this code and value says
abbrev pub entry : ℕ → List ℕ → Content
entry c v = record { code = c; key = []; value = v }

-- ---- the number of a call alone, 0 where nothing is refused, for cases over many numbers

abbrev pub vended_number : Vended → ℕ
vended_number (Ok (n, b)) = 0
vended_number (Err r) = r.number

abbrev pub made_number : Made → ℕ
made_number (Ok n) = 0
made_number (Err r) = r.number

-- of a read into so many bytes
abbrev pub reading : ℕ → ℕ → List ℕ → ℕ → ℕ
reading f e image room = vended_number (read_vendor f e image (replicate room 7)).answer

-- of a write of offsets that are all 0 into so many bytes
abbrev pub writing : ℕ → ℕ → List ℕ → List ℕ → ℕ → ℕ
writing f e serial pieces room = made_number (write_vendor f e serial zeros pieces (replicate room 7)).answer

-- how many of these entries match
abbrev pub found : List Content → ℕ
found cs = length (matching cs)

-- ---- cases

-- a question, with the answer that it must have
pub data Case : Type 0 where
  -- the numbers that bytes say, and the bytes that say them
  signs : (s : List ℕ) (answer : List ℤ) → Case
  -- eight offsets that eight bytes say, and the bytes that say them
  eights : (s : List ℕ) (answer : Offsets) → Case
  -- how many of these entries match, and what they hold, joined
  joins : (entries : List Content) (count : ℕ) (payload : List ℕ) → Case
  -- what a payload comes to
  payloads : (s : List ℕ) (answer : Said) → Case
  -- the payload of a serial and offsets
  makes : (serial : List ℕ) (o : Offsets) (answer : List ℕ) → Case
  -- a payload cut into pieces of these lengths
  cuts : (pieces s answer : List ℕ) → Case
  -- may a payload with this serial be written in pieces of these lengths
  fits : (serial pieces : List ℕ) (answer : Bool) → Case
  -- the piece lengths that lie in lent bytes
  lies : (s answer : List ℕ) → Case
  -- the number that a call gives, 0 where nothing is refused
  numbers : (n : ℕ) (answer : ℕ) → Case
  -- the numbers below a bound for which a question has this answer
  sweeps : (bound : ℕ) (question : ℕ → ℕ) (number : ℕ) (answer : List ℕ) → Case
  -- a read and a write: the answer, and the buffer or the output
  reads : (format edition : ℕ) (image buffer : List ℕ) (answer : Vended) (memory : List ℕ) → Case
  writes : (format edition : ℕ) (serial : List ℕ) (o : Offsets) (pieces out : List ℕ) (answer : Made) (memory : List ℕ) → Case
  -- a read and a write into so many bytes 07h, that is refused: they stay
  unreads : (format edition : ℕ) (image : List ℕ) (room : ℕ) (answer : Refusal) → Case
  unwrites : (format edition : ℕ) (serial : List ℕ) (o : Offsets) (pieces : List ℕ) (room : ℕ) (answer : Refusal) → Case
  -- what an answer says
  tells : (said answer : Told) → Case

-- an answer of any of these
pub data Answer : Type 0 where
  number : ℕ → Answer
  bytes : List ℕ → Answer
  signed-bytes : List ℤ → List ℕ → Answer
  eight : Offsets → List ℕ → Answer
  held : ℕ → List ℕ → Answer
  come-to : Said → Answer
  whether : Bool → Answer
  taken : Taking → Answer
  outcome : Outcome → Answer
  told : Told → Answer

-- what the definitions answer
unfoldable pub given : Case → Answer
unfolding check32_of mirror check_of byte_in single_bit all one_of same_bytes part next coded_head
    onie onie_opened onie_filled onie_check formed onie_rule
    chosen since_in names content walks walk sealed seen_before reader_rule fault judge complete read_as read_image items
    matches matching joined measured checked amplifier payload_says payload_of cut_into writable asked read_vendor pieces_in write_vendor
given (signs s answer) = signed-bytes (map signed s) (map signed_byte answer)
given (eights s answer) = eight (offsets_in s) (offset_bytes answer)
given (joins cs n s) = held (length (matching cs)) (joined (matching cs))
given (payloads s answer) = come-to (payload_says s)
given (makes serial o answer) = bytes (payload_of serial o)
given (cuts pieces s answer) = bytes (cut_into pieces s)
given (fits serial pieces answer) = whether (writable serial pieces)
given (lies s answer) = bytes (pieces_in s)
given (numbers n answer) = number n
given (sweeps bound question n answer) = bytes (those bound 0 question n)
given (reads f e image buffer answer memory) = taken (read_vendor f e image buffer)
given (writes f e serial o pieces out answer memory) = outcome (write_vendor f e serial o pieces out)
given (unreads f e image room answer) = taken (read_vendor f e image (replicate room 7))
given (unwrites f e serial o pieces room answer) = outcome (write_vendor f e serial o pieces (replicate room 7))
given (tells t answer) = told t

-- what they must answer
abbrev pub wanted : Case → Answer
wanted (signs s answer) = signed-bytes answer s
wanted (eights s answer) = eight answer s
wanted (joins cs n s) = held n s
wanted (payloads s answer) = come-to answer
wanted (makes serial o answer) = bytes answer
wanted (cuts pieces s answer) = bytes answer
wanted (fits serial pieces answer) = whether answer
wanted (lies s answer) = bytes answer
wanted (numbers n answer) = number answer
wanted (sweeps bound question n answer) = bytes answer
wanted (reads f e image buffer answer memory) = taken (record { answer = answer; memory = memory })
wanted (writes f e serial o pieces out answer memory) = outcome (record { answer = answer; memory = memory })
wanted (unreads f e image room answer) = taken (record { answer = Err answer; memory = replicate room 7 })
wanted (unwrites f e serial o pieces room answer) = outcome (record { answer = Err answer; memory = replicate room 7 })
wanted (tells t answer) = told answer

-- ---- offsets, and 003's example

abbrev pub cases : List Case
cases =
    -- ---- an offset: 18h is 24 and FEh is -2; exact at -128, 0 and 127; and back
    signs (hex "00") (pos 0 ∷ [])
    ∷ signs (hex "01") (pos 1 ∷ [])
    ∷ signs (hex "18") (pos 24 ∷ [])
    ∷ signs (hex "7F") (pos 127 ∷ [])
    ∷ signs (hex "80") (minus 128 ∷ [])
    ∷ signs (hex "81") (minus 127 ∷ [])
    ∷ signs (hex "FE") (minus 2 ∷ [])
    ∷ signs (hex "FF") (minus 1 ∷ [])
    ∷ signs (hex "7E 7F 80 81 FE FF 00 01") (pos 126 ∷ pos 127 ∷ minus 128 ∷ minus 127 ∷ minus 2 ∷ minus 1 ∷ pos 0 ∷ pos 1 ∷ [])
    -- every byte, and back
    ∷ signs (run 0 127) (map pos (run 0 127))
    ∷ signs (run 128 255) (map (λ b. minus (256 - b)) (run 128 255))
    -- ---- eight offsets that differ: each in its own place, both ways
    ∷ eights (hex "01 02 03 04 05 06 07 08") (offsets (pos 1) (pos 2) (pos 3) (pos 4) (pos 5) (pos 6) (pos 7) (pos 8))
    ∷ eights (hex "01 7F 80 81 FE FF 18 9C") (offsets (pos 1) (pos 127) (minus 128) (minus 127) (minus 2) (minus 1) (pos 24) (minus 100))
    ∷ eights (hex "9C 18 FF FE 81 80 7F 01") (offsets (minus 100) (pos 24) (minus 1) (minus 2) (minus 127) (minus 128) (pos 127) (pos 1))
    ∷ eights (hex "F8 F7 F6 F5 F4 F3 F2 F1") (offsets (minus 8) (minus 9) (minus 10) (minus 11) (minus 12) (minus 13) (minus 14) (minus 15))
    -- one that is not 0, in each place
    ∷ eights (hex "80 00 00 00 00 00 00 00") (offsets (minus 128) (pos 0) (pos 0) (pos 0) (pos 0) (pos 0) (pos 0) (pos 0))
    ∷ eights (hex "00 80 00 00 00 00 00 00") (offsets (pos 0) (minus 128) (pos 0) (pos 0) (pos 0) (pos 0) (pos 0) (pos 0))
    ∷ eights (hex "00 00 80 00 00 00 00 00") (offsets (pos 0) (pos 0) (minus 128) (pos 0) (pos 0) (pos 0) (pos 0) (pos 0))
    ∷ eights (hex "00 00 00 80 00 00 00 00") (offsets (pos 0) (pos 0) (pos 0) (minus 128) (pos 0) (pos 0) (pos 0) (pos 0))
    ∷ eights (hex "00 00 00 00 80 00 00 00") (offsets (pos 0) (pos 0) (pos 0) (pos 0) (minus 128) (pos 0) (pos 0) (pos 0))
    ∷ eights (hex "00 00 00 00 00 80 00 00") (offsets (pos 0) (pos 0) (pos 0) (pos 0) (pos 0) (minus 128) (pos 0) (pos 0))
    ∷ eights (hex "00 00 00 00 00 00 80 00") (offsets (pos 0) (pos 0) (pos 0) (pos 0) (pos 0) (pos 0) (minus 128) (pos 0))
    ∷ eights (hex "00 00 00 00 00 00 00 80") (offsets (pos 0) (pos 0) (pos 0) (pos 0) (pos 0) (pos 0) (pos 0) (minus 128))
    -- ---- 003's example: the payload, and what it says
    ∷ makes (text "DQ000MPW") zeros (hex "08 44 51 30 30 30 4D 50 57 00 09 00 00 00 00 00 00 00 00 00 02 60 51 4B")
    ∷ payloads example (Ok (block_said 8 11 zeros))
    -- the one FDh that 003 shows, and the two
    ∷ reads 4 3 (onie_of (hex "FD 1D 00 00 1F 79 00 08 44 51 30 30 30 4D 50 57 00 09 00 00 00 00 00 00 00 00 00 02 60 51 4B") (hex "C4 CA CB B7")) (replicate 24 7) (Ok (24, (block_said 8 11 zeros))) example
    ∷ reads 4 3 (onie_of (hex "FD 1C 00 00 1F 79 00 08 44 51 30 30 30 4D 50 57 00 09 00 00 00 00 00 00 00 00 00 02 60 51 FD 06 00 00 1F 79 00 4B") (hex "0F AE 02 F5")) (replicate 24 7) (Ok (24, (block_said 8 11 zeros))) example
    -- written in one piece of 24 bytes, and in two, of 23 and 1: the values that 003 shows, without code and length byte
    ∷ writes 4 3 (text "DQ000MPW") zeros (24 ∷ []) (replicate 29 7) (Ok 29) (hex "00 00 1F 79 00 08 44 51 30 30 30 4D 50 57 00 09 00 00 00 00 00 00 00 00 00 02 60 51 4B")
    ∷ writes 4 3 (text "DQ000MPW") zeros (23 ∷ 1 ∷ []) (replicate 34 7) (Ok 34) (hex "00 00 1F 79 00 08 44 51 30 30 30 4D 50 57 00 09 00 00 00 00 00 00 00 00 00 02 60 51 00 00 1F 79 00 4B")
    ∷ []

pub every-case : map given cases ≡ map wanted cases
unfolding given
every-case = refl
