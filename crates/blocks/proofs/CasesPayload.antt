-- Worked cases of payloads: which entries match, what a payload says, and how it is made and cut, as one statement over a list
-- (02, "Vendor blocks for the optics lab"; 003).
-- Assumes nothing.
use Prim.Native.Nat.{ℕ, ◌-◌}
use mathlib.Core.Path.{◌≡◌, refl}
use mathlib.Core.List.{List, [], ◌∷◌, ◌++◌, map}
use mathlib.Core.Bool.{true, false}
use lib.IntN.{pos}
use lib.ListN.{replicate}
use Rattle.std.specs.Prelude.{Ok, Err}
use Rattle.layout.specs.Walk.{Content}
use Rattle.layout.proofs.Cases.{text, hex}
use Rattle.blocks.proofs.Cases.{offsets, zeros, varied, reversed, short_with, example_with, example, value, block_said, entry, found}
use Rattle.blocks.proofs.Cases.{Case, joins, payloads, makes, cuts, fits, sweeps, given, wanted}

-- what an FDh says that holds this piece
abbrev pub holds : List ℕ → Content
holds s = entry 0xFD (value s)

-- how many entries match, where there is one of this code and value
abbrev pub counted : ℕ → List ℕ → ℕ
counted c v = found (entry c v ∷ [])

-- four bytes and zeros, n bytes in all. Where the four bring the remainder of the check to 0, the zeros leave it there, and a long payload is soon computed
abbrev pub long : List ℕ → ℕ → List ℕ
long w n = w ++ replicate (n - 4) 0

abbrev pub cases : List Case
cases =
    -- ---- which entries match: an FDh whose value begins 00 00 1F 79 00. No entry, none that matches
    joins [] 0 []
    ∷ joins (entry 0x21 (hex "41") ∷ []) 0 []
    -- each of the five bytes counts, and the code
    ∷ sweeps 256 (λ b. counted 0xFD (b ∷ hex "00 1F 79 00 4B")) 1 (0x00 ∷ [])
    ∷ sweeps 256 (λ b. counted 0xFD (hex "00" ++ (b ∷ hex "1F 79 00 4B"))) 1 (0x00 ∷ [])
    ∷ sweeps 256 (λ b. counted 0xFD (hex "00 00" ++ (b ∷ hex "79 00 4B"))) 1 (0x1F ∷ [])
    ∷ sweeps 256 (λ b. counted 0xFD (hex "00 00 1F" ++ (b ∷ hex "00 4B"))) 1 (0x79 ∷ [])
    ∷ sweeps 256 (λ b. counted 0xFD (hex "00 00 1F 79" ++ (b ∷ hex "4B"))) 1 (0x00 ∷ [])
    ∷ joins (entry 0xFD (hex "01 00 1F 79 00 4B") ∷ []) 0 []
    ∷ joins (entry 0xFD (hex "00 01 1F 79 00 4B") ∷ []) 0 []
    ∷ joins (entry 0xFD (hex "00 00 1E 79 00 4B") ∷ []) 0 []
    ∷ joins (entry 0xFD (hex "00 00 1F 78 00 4B") ∷ []) 0 []
    ∷ joins (entry 0xFD (hex "00 00 1F 79 01 4B") ∷ []) 0 []
    ∷ sweeps 256 (λ c. counted c (hex "00 00 1F 79 00 4B")) 1 (0xFD ∷ [])
    ∷ joins (entry 0x23 (hex "00 00 1F 79 00 4B") ∷ []) 0 []
    ∷ joins (entry 0x99 (hex "00 00 1F 79 00") ∷ []) 0 []
    -- four bytes don't match, nor do fewer; five match and add nothing; what follows is taken as it is, a second prefix too
    ∷ joins (entry 0xFD [] ∷ []) 0 []
    ∷ joins (entry 0xFD (hex "00") ∷ []) 0 []
    ∷ joins (entry 0xFD (hex "00 00") ∷ []) 0 []
    ∷ joins (entry 0xFD (hex "00 00 1F") ∷ []) 0 []
    ∷ joins (entry 0xFD (hex "00 00 1F 79") ∷ []) 0 []
    ∷ joins (entry 0xFD (hex "00 00 1F 79 00") ∷ []) 1 []
    ∷ joins (entry 0xFD (hex "00 00 1F 79 00 4B") ∷ []) 1 (hex "4B")
    ∷ joins (entry 0xFD (hex "00 00 1F 79 00 00 00 1F 79 00 01") ∷ []) 1 (hex "00 00 1F 79 00 01")
    ∷ joins (entry 0xFD (hex "01 00 00 1F 79 00") ∷ []) 0 []
    ∷ joins (entry 0xFD (hex "00 00 00 1F 79 00") ∷ []) 0 []
    -- joined in their order, whatever stands between
    ∷ joins (holds (hex "01") ∷ holds (hex "02 03") ∷ holds (hex "04") ∷ []) 3 (hex "01 02 03 04")
    ∷ joins (holds (hex "04") ∷ holds (hex "02 03") ∷ holds (hex "01") ∷ []) 3 (hex "04 02 03 01")
    ∷ joins (entry 0xFD (hex "00 00 1F 79") ∷ holds (hex "01") ∷ entry 0x23 (hex "41") ∷ entry 0xFD (hex "00 00 1F 79 01 09") ∷ holds (hex "02") ∷ entry 0xFC (hex "00 00 1F 79 00 09") ∷ entry 0xFD (hex "00 00 1F 79 00") ∷ holds (hex "03") ∷ entry 0xFD (hex "00 00 00 09 00 08") ∷ []) 4 (hex "01 02 03")
    ∷ joins (holds (hex "01") ∷ holds (hex "01") ∷ []) 2 (hex "01 01")
    -- ---- what a payload says: the serial, any bytes, also none; the block after it; the offsets
    ∷ payloads (hex "00 00 09 00 00 00 00 00 00 00 00 00 87 C0 ED A5") (Ok (block_said 0 3 zeros))
    ∷ payloads (hex "00 00 09 00 01 7F 80 81 FE FF 18 9C 60 FF D2 4C") (Ok (block_said 0 3 varied))
    ∷ payloads (hex "01 41 00 09 00 01 7F 80 81 FE FF 18 9C 62 0E 70 BB") (Ok (block_said 1 4 varied))
    ∷ payloads (hex "03 00 FF 7F 00 09 00 9C 18 FF FE 81 80 7F 01 05 25 79 E1") (Ok (block_said 3 6 reversed))
    ∷ payloads (hex "07 09 00 09 00 01 02 03 00 09 00 09 00 09 00 09 00 09 00 57 1C 47 30") (Ok (block_said 7 10 (offsets (pos 9) (pos 0) (pos 9) (pos 0) (pos 9) (pos 0) (pos 9) (pos 0))))
    -- a serial of 127, 128 and 255 bytes
    ∷ payloads (hex "7F" ++ long (hex "DF 7C 47 ED") 127 ++ hex "00 09 00 00 00 00 00 00 00 00 00 03 EA D4 35") (Ok (block_said 127 130 zeros))
    ∷ payloads (hex "80" ++ long (hex "52 93 45 C0") 128 ++ hex "00 09 00 00 00 00 00 00 00 00 00 03 EA D4 35") (Ok (block_said 128 131 zeros))
    ∷ payloads (hex "FF" ++ long (hex "FF FF FF 00") 255 ++ hex "00 09 00 00 00 00 00 00 00 00 00 03 EA D4 35") (Ok (block_said 255 258 zeros))
    -- ---- 18: no bytes; a length byte alone; lengths that can't be read
    ∷ payloads [] (Err 18)
    ∷ payloads (hex "00") (Err 18)
    ∷ payloads (hex "01") (Err 18)
    ∷ payloads (hex "FF") (Err 18)
    ∷ payloads (hex "00 00") (Err 18)
    ∷ payloads (hex "01 41") (Err 18)
    ∷ payloads (hex "01 41 00") (Err 18)
    ∷ payloads (hex "02 41 42 00") (Err 18)
    ∷ payloads (hex "00 00 00") (Err 18)
    ∷ payloads (hex "00 00 09") (Err 18)
    ∷ payloads (hex "00 00 00 00") (Err 18)
    ∷ payloads (hex "00 00 00 00 00 00") (Err 18)
    ∷ payloads (hex "00 00 09 00") (Err 18)
    -- one byte too long, with the check where it would stand, and with the right check at the end; one too short
    ∷ payloads (hex "08 44 51 30 30 30 4D 50 57 00 09 00 00 00 00 00 00 00 00 00 02 60 51 4B 00") (Err 18)
    ∷ payloads (hex "08 44 51 30 30 30 4D 50 57 00 09 00 00 00 00 00 00 00 00 00 02 60 51 4B 4B") (Err 18)
    ∷ payloads (hex "08 44 51 30 30 30 4D 50 57 00 09 00 00 00 00 00 00 00 00 00 00 33 0E 17 C4") (Err 18)
    ∷ payloads (hex "08 44 51 30 30 30 4D 50 57 00 09 00 00 00 00 00 00 00 00 00 02 60 51") (Err 18)
    ∷ payloads (hex "44 51 30 30 30 4D 50 57 00 09 00 00 00 00 00 00 00 00 00 02 60 51 4B") (Err 18)
    ∷ payloads (hex "08 44 51 30 30 30 4D 50 57 00 09 00 00 00 00 00 00 00 00 02 A8 31 E5") (Err 18)
    ∷ payloads (hex "00 08 44 51 30 30 30 4D 50 57 00 09 00 00 00 00 00 00 00 00 00 4C B1 0F 4D") (Err 18)
    ∷ payloads (hex "08 44 51 30 30 30 4D 50 57 00 09 00 00 00 00 00 00 00 00 00 02 60 51 4B 2B AC B9 8A") (Err 18)
    -- a serial that is one longer or shorter than its length says, with a right check; one that runs past the end
    ∷ payloads (hex "02 41 42 00 09 00 01 7F 80 81 FE FF 18 9C 97 BC C8 08") (Ok (block_said 2 5 varied))
    ∷ payloads (hex "01 41 42 00 09 00 01 7F 80 81 FE FF 18 9C EB DD ED D3") (Err 18)
    ∷ payloads (hex "03 41 42 00 09 00 01 7F 80 81 FE FF 18 9C 0A B3 29 7E") (Err 18)
    ∷ payloads (hex "FF 41 42 00 09 00 01 7F 80 81 FE FF 18 9C 49 5A E4 F4") (Err 18)
    ∷ payloads (hex "0D 41 42 00 09 00 01 7F 80 81 FE FF 18 9C C1 28 7C FE") (Err 18)
    ∷ payloads (hex "0E 41 42 00 09 00 01 7F 80 81 FE FF 18 9C BD 49 59 25") (Err 18)
    ∷ payloads (hex "12 41 42 00 09 00 01 7F 80 81 FE FF 18 9C F1 0E F4 64") (Err 18)
    -- a block that is one longer or shorter, or runs past the end; the high byte of its length counts
    ∷ payloads (hex "02 41 42 00 08 00 01 7F 80 81 FE FF 18 9C 78 7E A3 36") (Err 18)
    ∷ payloads (hex "02 41 42 00 0A 00 01 7F 80 81 FE FF 18 9C 7C 8B 73 0B") (Err 18)
    ∷ payloads (hex "02 41 42 00 00 00 01 7F 80 81 FE FF 18 9C 6B A9 E3 C2") (Err 18)
    ∷ payloads (hex "02 41 42 00 0D 00 01 7F 80 81 FE FF 18 9C 9E 57 68 72") (Err 18)
    ∷ payloads (hex "02 41 42 00 FF 00 01 7F 80 81 FE FF 18 9C 8A EE 34 D6") (Err 18)
    ∷ payloads (hex "02 41 42 01 09 00 01 7F 80 81 FE FF 18 9C 56 32 17 C8") (Err 18)
    ∷ payloads (hex "02 41 42 01 00 00 01 7F 80 81 FE FF 18 9C AA 27 3C 02") (Err 18)
    ∷ payloads (hex "02 41 42 09 00 00 01 7F 80 81 FE FF 18 9C 10 E4 DD 47") (Err 18)
    ∷ payloads (hex "02 41 42 FF FF 00 01 7F 80 81 FE FF 18 9C 90 D5 A7 7C") (Err 18)
    ∷ payloads (hex "02 41 42 FF 09 00 01 7F 80 81 FE FF 18 9C 8D 87 5B A2") (Err 18)
    -- a block of 256 bytes is as long as it says: 19 and 20 are told of it, and of 265 bytes, whose low byte is 9
    ∷ payloads (hex "00 01 00" ++ long (hex "AC 17 A5 19") 256 ++ hex "FF FF FF FF") (Err 20)
    ∷ payloads (hex "00 01 00" ++ long (hex "AC 17 A5 19") 256 ++ hex "FF FF FF FE") (Err 19)
    ∷ payloads (hex "00 01 00" ++ long (hex "AC 17 A5 19") 257 ++ hex "FF FF FF FF") (Err 18)
    ∷ payloads (hex "00 01 00" ++ long (hex "AC 17 A5 19") 255 ++ hex "FF FF FF FF") (Err 18)
    ∷ payloads (hex "00 01 09" ++ long (hex "08 AF 79 60") 265 ++ hex "FF FF FF FF") (Err 20)
    ∷ payloads (hex "00 00 FF" ++ long (hex "60 C9 BC 2D") 255 ++ hex "FF FF FF FF") (Err 20)
    ∷ payloads (hex "00 02 00" ++ long (hex "6F 44 88 32") 512 ++ hex "FF FF FF FF") (Err 20)
    -- ---- 19: each byte of the check
    ∷ payloads (short_with (hex "61 FF D2 4C")) (Err 19)
    ∷ payloads (short_with (hex "E0 FF D2 4C")) (Err 19)
    ∷ payloads (short_with (hex "60 FE D2 4C")) (Err 19)
    ∷ payloads (short_with (hex "60 7F D2 4C")) (Err 19)
    ∷ payloads (short_with (hex "60 FF D3 4C")) (Err 19)
    ∷ payloads (short_with (hex "60 FF 52 4C")) (Err 19)
    ∷ payloads (short_with (hex "60 FF D2 4D")) (Err 19)
    ∷ payloads (short_with (hex "60 FF D2 CC")) (Err 19)
    -- one that is low byte first, without the final change, all zeros, or over other bytes: one less at the end or at the front, four zeros for the check too, the block alone, the serial alone
    ∷ payloads (example_with (hex "4B 51 60 02")) (Err 19)
    ∷ payloads (example_with (hex "FD 9F AE B4")) (Err 19)
    ∷ payloads (short_with (hex "00 00 00 00")) (Err 19)
    ∷ payloads (hex "01 41 00 09 00 01 7F 80 81 FE FF 18 9C DC 07 14 E6") (Err 19)
    ∷ payloads (hex "01 41 00 09 00 01 7F 80 81 FE FF 18 9C CB 39 29 D3") (Err 19)
    ∷ payloads (hex "01 41 00 09 00 01 7F 80 81 FE FF 18 9C 82 F9 53 2D") (Err 19)
    ∷ payloads (hex "01 41 00 09 00 01 7F 80 81 FE FF 18 9C 01 36 2B 47") (Err 19)
    ∷ payloads (hex "01 41 00 09 00 01 7F 80 81 FE FF 18 9C 59 19 52 B8") (Err 19)
    -- one byte of the rest: of the serial, the version and an offset
    ∷ payloads (hex "01 40 00 09 00 01 7F 80 81 FE FF 18 9C 62 0E 70 BB") (Err 19)
    ∷ payloads (hex "01 41 00 09 01 01 7F 80 81 FE FF 18 9C 62 0E 70 BB") (Err 19)
    ∷ payloads (hex "01 41 00 09 00 00 7F 80 81 FE FF 18 9C 62 0E 70 BB") (Err 19)
    ∷ payloads (hex "01 41 00 09 00 01 7F 80 81 FE FF 18 9D 62 0E 70 BB") (Err 19)
    -- ---- 20: the version, with a right check; a block of 8, 10, 0 and 1 bytes
    ∷ payloads (hex "00 00 09 01 00 00 00 00 00 00 00 00 90 BB F9 E6") (Err 20)
    ∷ payloads (hex "00 00 09 FF 00 00 00 00 00 00 00 00 CE 8F E1 EE") (Err 20)
    ∷ payloads (hex "00 00 09 80 00 00 00 00 00 00 00 00 E1 95 ED EA") (Err 20)
    ∷ payloads (hex "01 00 00 09 01 00 00 00 00 00 00 00 00 39 8C A0 8E") (Err 20)
    ∷ payloads (hex "00 00 08 00 00 00 00 00 00 00 00 D0 5F 13 F4") (Err 20)
    ∷ payloads (hex "00 00 0A 00 00 00 00 00 00 00 00 00 00 ED DB 1E 06") (Err 20)
    ∷ payloads (hex "00 00 00 FF 41 D9 12") (Err 20)
    ∷ payloads (hex "00 00 01 00 38 5F EE 5D") (Err 20)
    ∷ payloads (hex "00 00 12 00 00 00 00 00 00 00 00 00 00 00 00 00 00 00 00 00 00 26 F2 F8 70") (Err 20)
    ∷ payloads (hex "00 00 08 01 00 00 00 00 00 00 00 1C F5 13 6A") (Err 20)
    ∷ payloads (hex "02 00 00 00 08 00 00 00 00 00 00 00 00 D4 F0 51 D1") (Err 20)
    ∷ payloads (hex "02 00 00 00 00 BC E2 A4 7D") (Err 20)
    -- ---- 18 before 19 before 20
    ∷ payloads (hex "00 00 08 00 00 00 00 00 00 00 00 00 97 FD 79 64") (Err 18)
    ∷ payloads (hex "00 00 09 01 00 00 00 00 00 00 00 00 00 64 04 EC C6") (Err 18)
    ∷ payloads (hex "00 00 09 01 00 00 00 00 00 00 00 00 00 9B FB 13 39") (Err 18)
    ∷ payloads (hex "00 00 08 01 00 00 00 00 00 00 00 00 7F 79 92 D8") (Err 18)
    ∷ payloads (hex "00 00 09 01 00 00 00 00 00 00 00 00 6F 44 06 19") (Err 19)
    ∷ payloads (hex "00 00 08 00 00 00 00 00 00 00 00 2F A0 EC 0B") (Err 19)
    ∷ payloads (hex "00 00 00 00 BE 26 ED") (Err 19)
    ∷ payloads (hex "00 00 00 00 00 00 00") (Err 19)
    -- ---- a payload that is made: the serial with its length, the block with its own, each offset in its place, and the check
    ∷ makes [] zeros (hex "00 00 09 00 00 00 00 00 00 00 00 00 87 C0 ED A5")
    ∷ makes [] varied (hex "00 00 09 00 01 7F 80 81 FE FF 18 9C 60 FF D2 4C")
    ∷ makes (text "A") varied (hex "01 41 00 09 00 01 7F 80 81 FE FF 18 9C 62 0E 70 BB")
    ∷ makes (hex "00 FF") reversed (hex "02 00 FF 00 09 00 9C 18 FF FE 81 80 7F 01 AE 77 4E 53")
    ∷ makes (text "DQ000MPW") (offsets (pos 1) (pos 2) (pos 3) (pos 4) (pos 5) (pos 6) (pos 7) (pos 8)) (hex "08 44 51 30 30 30 4D 50 57 00 09 00 01 02 03 04 05 06 07 08 58 88 06 E7")
    ∷ makes (long (hex "FF FF FF 00") 255) zeros (0xFF ∷ (long (hex "FF FF FF 00") 255 ++ hex "00 09 00 00 00 00 00 00 00 00 00 03 EA D4 35"))
    -- ---- a payload that is cut: the prefix before each piece, also before one of no bytes; no piece, no bytes
    ∷ cuts (4 ∷ []) (hex "01 02 03 04") (hex "00 00 1F 79 00 01 02 03 04")
    ∷ cuts (3 ∷ 1 ∷ []) (hex "01 02 03 04") (hex "00 00 1F 79 00 01 02 03 00 00 1F 79 00 04")
    ∷ cuts (1 ∷ 3 ∷ []) (hex "01 02 03 04") (hex "00 00 1F 79 00 01 00 00 1F 79 00 02 03 04")
    ∷ cuts (0 ∷ 2 ∷ 0 ∷ 2 ∷ 0 ∷ []) (hex "01 02 03 04") (hex "00 00 1F 79 00 00 00 1F 79 00 01 02 00 00 1F 79 00 00 00 1F 79 00 03 04 00 00 1F 79 00")
    ∷ cuts (1 ∷ 1 ∷ 1 ∷ 1 ∷ []) (hex "01 02 03 04") (value (hex "01") ++ value (hex "02") ++ value (hex "03") ++ value (hex "04"))
    ∷ cuts (24 ∷ []) example (value example)
    ∷ cuts (23 ∷ 1 ∷ []) example (value (hex "08 44 51 30 30 30 4D 50 57 00 09 00 00 00 00 00 00 00 00 00 02 60 51") ++ value (hex "4B"))
    ∷ cuts (9 ∷ 11 ∷ 4 ∷ []) example (value (hex "08 44 51 30 30 30 4D 50 57") ++ value (hex "00 09 00 00 00 00 00 00 00 00 00") ++ value (hex "02 60 51 4B"))
    ∷ cuts [] [] []
    -- ---- what may be written: the pieces sum to the payload, which is 16 bytes longer than the serial; one more, one less, none
    ∷ fits (text "DQ000MPW") (24 ∷ []) true
    ∷ fits (text "DQ000MPW") (25 ∷ []) false
    ∷ fits (text "DQ000MPW") (23 ∷ []) false
    ∷ fits (text "DQ000MPW") (23 ∷ 1 ∷ []) true
    ∷ fits (text "DQ000MPW") (1 ∷ 23 ∷ []) true
    ∷ fits (text "DQ000MPW") (23 ∷ 2 ∷ []) false
    ∷ fits (text "DQ000MPW") (22 ∷ 1 ∷ []) false
    ∷ fits (text "DQ000MPW") (29 ∷ []) false
    ∷ fits (text "DQ000MPW") (28 ∷ 1 ∷ []) false
    ∷ fits (text "DQ000MPW") (8 ∷ 8 ∷ 8 ∷ []) true
    ∷ fits (text "DQ000MPW") (0 ∷ 24 ∷ []) true
    ∷ fits (text "DQ000MPW") (24 ∷ 0 ∷ []) true
    ∷ fits (text "DQ000MPW") (0 ∷ 0 ∷ 12 ∷ 0 ∷ 12 ∷ []) true
    ∷ fits (text "DQ000MPW") (0 ∷ 25 ∷ []) false
    ∷ fits (text "DQ000MPW") (0 ∷ []) false
    ∷ fits (text "DQ000MPW") [] false
    ∷ fits (text "DQ000MPW") (24 ∷ 24 ∷ []) false
    ∷ fits [] (16 ∷ []) true
    ∷ fits [] (15 ∷ []) false
    ∷ fits [] (17 ∷ []) false
    ∷ fits [] (1 ∷ 1 ∷ 1 ∷ 1 ∷ 1 ∷ 1 ∷ 1 ∷ 1 ∷ 1 ∷ 1 ∷ 1 ∷ 1 ∷ 1 ∷ 1 ∷ 1 ∷ 1 ∷ []) true
    ∷ fits [] (0 ∷ []) false
    ∷ fits [] [] false
    ∷ fits [] (15 ∷ 1 ∷ []) true
    -- a serial of 255 bytes, and of 256
    ∷ fits (replicate 255 0x41) (250 ∷ 21 ∷ []) true
    ∷ fits (replicate 255 0x41) (250 ∷ 20 ∷ []) false
    ∷ fits (replicate 255 0x41) (250 ∷ 22 ∷ []) false
    ∷ fits (replicate 256 0x41) (250 ∷ 22 ∷ []) false
    ∷ fits (replicate 256 0x41) (250 ∷ 21 ∷ []) false
    ∷ fits (replicate 256 0x41) (100 ∷ 100 ∷ 72 ∷ []) false
    ∷ fits (replicate 254 0x41) (250 ∷ 20 ∷ []) true
    ∷ fits (replicate 255 0x41) (16 ∷ []) false
    -- a piece of 250 bytes, and of 251, the first, the last and in between
    ∷ fits (replicate 234 0) (250 ∷ []) true
    ∷ fits (replicate 235 0) (251 ∷ []) false
    ∷ fits (replicate 235 0) (250 ∷ 1 ∷ []) true
    ∷ fits (replicate 235 0) (1 ∷ 250 ∷ []) true
    ∷ fits (replicate 236 0) (251 ∷ 1 ∷ []) false
    ∷ fits (replicate 236 0) (1 ∷ 251 ∷ []) false
    ∷ fits (replicate 236 0) (250 ∷ 2 ∷ []) true
    ∷ fits (replicate 237 0) (1 ∷ 251 ∷ 1 ∷ []) false
    ∷ fits (replicate 237 0) (1 ∷ 250 ∷ 2 ∷ []) true
    ∷ fits (replicate 240 0) (256 ∷ []) false
    -- a sum that would be right in 8, 16, 32 or 64 bits
    ∷ fits (text "DQ000MPW") (250 ∷ 30 ∷ []) false
    ∷ fits (text "DQ000MPW") (replicate 262 250 ++ (60 ∷ [])) false
    ∷ fits (text "DQ000MPW") (4294967295 ∷ 25 ∷ []) false
    ∷ fits (text "DQ000MPW") (4294967320 ∷ []) false
    ∷ fits (text "DQ000MPW") (18446744073709551615 ∷ 25 ∷ []) false
    ∷ []

pub every-case : map given cases ≡ map wanted cases
unfolding given
every-case = refl
