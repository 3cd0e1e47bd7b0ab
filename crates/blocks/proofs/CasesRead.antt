-- Worked cases of the vendor read: pieces in images, the buffer, refusals and their order, as one statement over a list
-- (02, "Vendor blocks for the optics lab"; 003).
-- Assumes nothing.
use Prim.Native.Nat.{ℕ}
use mathlib.Core.Path.{◌≡◌, refl}
use mathlib.Core.List.{List, [], ◌∷◌, ◌++◌, map}
use lib.IntN.{pos}
use lib.ListN.{replicate}
use Rattle.std.specs.Prelude.{Ok}
use Rattle.layout.specs.Bytes.{part_at, refusal}
use Rattle.layout.proofs.Cases.{hex, run, onie_of, no_entries}
use Rattle.blocks.specs.Vendor.{told_vended}
use Rattle.blocks.proofs.Cases.{offsets, zeros, varied, reversed, short_with, short, example, extension, piece, block_said, unread, reading}
use Rattle.blocks.proofs.Cases.{Case, numbers, sweeps, reads, unreads, tells, given, wanted}

-- an image that holds this payload in one FDh, with this check of the image
abbrev pub whole : List ℕ → List ℕ → List ℕ
whole s check = onie_of (piece s) check

-- 003's example in one FDh
abbrev pub single : List ℕ
single = whole example (hex "C4 CA CB B7")

abbrev pub cases : List Case
cases =
    -- ---- the payload in pieces: after the first byte, inside the length of the block, between the bytes of the check
    reads 4 3 (onie_of (piece (hex "00") ++ piece (hex "00") ++ piece (hex "09 00 01 7F 80 81 FE FF 18 9C 60 FF D2 4C")) (hex "32 B8 3A 3B")) (replicate 16 7) (Ok (16, (block_said 0 3 varied))) short
    ∷ reads 4 3 (onie_of (piece (hex "00 00") ++ piece (hex "09 00 01 7F 80 81 FE FF 18 9C") ++ piece (hex "60 FF D2 4C")) (hex "6B B8 09 A7")) (replicate 16 7) (Ok (16, (block_said 0 3 varied))) short
    ∷ reads 4 3 (onie_of (piece (hex "00 00 09 00 01 7F 80 81 FE FF 18 9C 60") ++ piece (hex "FF") ++ piece (hex "D2 4C")) (hex "B5 6C EB 63")) (replicate 16 7) (Ok (16, (block_said 0 3 varied))) short
    -- an FDh of the five bytes alone adds nothing, before, between and after
    ∷ reads 4 3 (onie_of (piece [] ++ piece (hex "00 00 09 00 01 7F 80 81 FE FF") ++ piece [] ++ piece (hex "18 9C 60 FF D2 4C") ++ piece []) (hex "14 C2 C7 0D")) (replicate 16 7) (Ok (16, (block_said 0 3 varied))) short
    -- whatever stands between: other entries, FDh of others, of four bytes, of another fifth byte, an unnamed code with the prefix
    ∷ reads 4 3 (onie_of (hex "21 03 41 6D 70" ++ extension (hex "00 00 1F 79") ++ piece (hex "00 00 09 00 01 7F 80 81 FE FF") ++ hex "23 01 35" ++ extension (hex "00 00 1F 79 01 09") ++ hex "99 06 00 00 1F 79 00 09" ++ piece (hex "18 9C 60 FF D2 4C") ++ extension (hex "00 00 00 09 00 08") ++ hex "2A 02 00 03") (hex "61 90 4A AD")) (replicate 16 7) (Ok (16, (block_said 0 3 varied))) short
    -- in image order: the other order is another payload
    ∷ unreads 4 3 (onie_of (piece (hex "00 01 7F 80 81 FE FF 18 9C 60 FF D2 4C") ++ piece (hex "00 00 09")) (hex "D6 65 E9 51")) 16 (refusal 18 0)
    ∷ unreads 4 3 (onie_of (piece (hex "00 00 09 00") ++ piece (hex "7F") ++ piece (hex "01") ++ piece (hex "80 81 FE FF 18 9C 60 FF D2 4C")) (hex "A5 2C C1 05")) 16 (refusal 19 0)
    -- what follows the image is not looked at
    ∷ reads 4 3 (whole short (hex "C7 18 ED 1B") ++ piece (hex "00")) (replicate 16 7) (Ok (16, (block_said 0 3 varied))) short
    -- ---- what it says: serials, and each offset in its place
    ∷ reads 4 3 (whole (hex "01 41 00 09 00 9C 18 FF FE 81 80 7F 01 D1 9F E6 C4") (hex "6F 8A 69 1D")) (replicate 17 7) (Ok (17, (block_said 1 4 reversed))) (hex "01 41 00 09 00 9C 18 FF FE 81 80 7F 01 D1 9F E6 C4")
    ∷ reads 4 3 (whole (hex "03 00 FF 7F 00 09 00 01 02 03 04 05 06 07 08 0B 63 87 DB") (hex "71 EF 08 26")) (replicate 19 7) (Ok (19, (block_said 3 6 (offsets (pos 1) (pos 2) (pos 3) (pos 4) (pos 5) (pos 6) (pos 7) (pos 8))))) (hex "03 00 FF 7F 00 09 00 01 02 03 04 05 06 07 08 0B 63 87 DB")
    -- ---- the buffer: longer (the bytes past the payload stay), one short, none
    ∷ reads 4 4 single (replicate 25 7) (Ok (24, (block_said 8 11 zeros))) (example ++ hex "07")
    ∷ reads 4 3 single (replicate 25 7) (Ok (24, (block_said 8 11 zeros))) (example ++ hex "07")
    ∷ reads 4 3 (whole short (hex "C7 18 ED 1B")) (hex "00 01 02 03 04 05 06 07 08 09 0A 0B 0C 0D 0E 0F 10 11 12 13") (Ok (16, (block_said 0 3 varied))) (hex "00 00 09 00 01 7F 80 81 FE FF 18 9C 60 FF D2 4C 10 11 12 13")
    ∷ reads 4 3 (whole short (hex "C7 18 ED 1B")) (hex "00 01 02 03 04 05 06 07 08 09 0A 0B 0C 0D 0E") (unread 12 0) (hex "00 01 02 03 04 05 06 07 08 09 0A 0B 0C 0D 0E")
    ∷ unreads 4 3 single 23 (refusal 12 0)
    ∷ unreads 4 3 single 0 (refusal 12 0)
    -- ---- 17: no entry, none of code FDh, none that begins so; before 12
    ∷ unreads 4 3 no_entries 30 (refusal 17 0)
    ∷ unreads 4 3 no_entries 0 (refusal 17 0)
    ∷ unreads 4 3 (onie_of (hex "21 01 41 2A 02 00 03") (hex "C1 0D 05 95")) 30 (refusal 17 0)
    ∷ unreads 4 3 (onie_of (extension (hex "00 00 1F 79")) (hex "3D DF A0 A8")) 30 (refusal 17 0)
    ∷ unreads 4 3 (onie_of (hex "99 06 00 00 1F 79 00 4B") (hex "CF 6A 2C 27")) 30 (refusal 17 0)
    ∷ unreads 4 3 (onie_of (extension (hex "01 00 1F 79 00 4B")) (hex "DB CC 88 B3")) 30 (refusal 17 0)
    ∷ unreads 4 3 (onie_of (extension (hex "00 00 1F 79 01 4B")) (hex "AF DA EF 48")) 0 (refusal 17 0)
    -- ---- 18: an FDh of the five bytes alone; too long, too short, before 12
    ∷ unreads 4 3 (onie_of (piece []) (hex "7F 3E E3 A3")) 30 (refusal 18 0)
    ∷ unreads 4 3 (onie_of (piece [] ++ piece []) (hex "AC A7 0F 18")) 0 (refusal 18 0)
    ∷ unreads 4 3 (whole (hex "00 00 09 00 01 7F 80 81 FE FF 18 9C 60 FF D2 4C 00") (hex "88 BD 36 E8")) 30 (refusal 18 0)
    ∷ unreads 4 3 (whole (hex "00 00 09 00 01 7F 80 81 FE FF 18 9C 00 AD 08 1D E4") (hex "5C 52 A4 B2")) 0 (refusal 18 0)
    ∷ unreads 4 3 (onie_of (piece short ++ piece (hex "4C")) (hex "34 DC F9 11")) 30 (refusal 18 0)
    ∷ unreads 4 3 (whole (hex "00 01 09 00 01 7F 80 81 FE FF 18 9C A1 71 0D 8C") (hex "7B 44 DA 35")) 30 (refusal 18 0)
    -- 19, before 12: in one piece, and a wrong byte in the second
    ∷ unreads 4 3 (whole (short_with (hex "60 FF D2 4D")) (hex "C6 DA 87 2C")) 0 (refusal 19 0)
    ∷ unreads 4 3 (onie_of (piece (hex "00 00 09 00 01 7F 80 81 FE FF 18 9C 60 FF D2") ++ piece (hex "4D")) (hex "37 BB 45 B0")) 16 (refusal 19 0)
    -- 20, before 12: version 01; a block of 8 and of 0 bytes
    ∷ unreads 4 3 (whole (hex "00 00 09 01 00 00 00 00 00 00 00 00 90 BB F9 E6") (hex "73 01 6A 25")) 0 (refusal 20 0)
    ∷ unreads 4 3 (whole (hex "00 00 08 00 00 00 00 00 00 00 00 D0 5F 13 F4") (hex "EE 15 D4 26")) 15 (refusal 20 0)
    ∷ unreads 4 3 (whole (hex "00 00 00 FF 41 D9 12") (hex "C4 A2 86 A3")) 0 (refusal 20 0)
    -- 18 before 19 before 20
    ∷ unreads 4 3 (whole (hex "00 00 09 01 00 00 00 00 00 00 00 00 00 64 04 EC C6") (hex "0F F3 74 78")) 0 (refusal 18 0)
    ∷ unreads 4 3 (whole (hex "00 00 09 01 00 00 00 00 00 00 00 00 6F 44 06 19") (hex "3D 3C 34 79")) 0 (refusal 19 0)
    -- ---- the image's own refusals, at their places, before 17 to 20 and 12
    ∷ unreads 4 3 [] 0 (refusal 3 0)
    ∷ unreads 4 3 (hex "54 6C 76 49 6E 66 6F 01 01 00 06 FE 04 D4 43 1C 18") 0 (refusal 3 0)
    ∷ unreads 4 3 (hex "54 6C 76 49 6E 66 6F 00 02 00 06 FE 04 D4 43 1C 18") 0 (refusal 4 0)
    ∷ unreads 4 3 (hex "54 6C 76 49 6E 66 6F 00 01 00 07 FE 04 D4 43 1C 18") 0 (refusal 5 9)
    ∷ unreads 4 3 (hex "54 6C 76 49 6E 66 6F 00 01 00 00") 0 (refusal 5 11)
    ∷ unreads 4 3 (onie_of (hex "00 00") (hex "84 11 7D A9")) 0 (refusal 6 11)
    ∷ unreads 4 3 (onie_of (piece short ++ hex "FF") (hex "03 C8 B4 56")) 24 (refusal 6 34)
    ∷ unreads 4 3 (onie_of [] (hex "D4 43 1C 19")) 0 (refusal 10 13)
    ∷ unreads 4 3 (onie_of (piece short) (hex "C7 18 ED 1A")) 24 (refusal 10 36)
    ∷ unreads 4 3 (onie_of (piece (hex "00")) (hex "EB A9 EA 0C")) 0 (refusal 10 21)
    ∷ unreads 4 3 (onie_of (hex "23 06 00 00 1F 79 00 4B") (hex "56 BE 37 D7")) 0 (refusal 7 11)
    ∷ unreads 4 3 (onie_of (piece short ++ extension (hex "00 00 1F")) (hex "63 36 F0 A6")) 24 (refusal 7 34)
    ∷ unreads 4 3 (onie_of (piece [] ++ hex "21 00 21 00") (hex "9B 32 15 D4")) 24 (refusal 8 20)
    -- ---- 16 for any format but 4, whatever the edition; 1; 16 for editions 1 and 2; before 2
    ∷ unreads 0 3 single 24 (refusal 16 0)
    ∷ unreads 0 9 single 24 (refusal 16 0)
    ∷ unreads 1 3 single 24 (refusal 16 0)
    ∷ unreads 1 9 single 24 (refusal 16 0)
    ∷ unreads 2 3 single 24 (refusal 16 0)
    ∷ unreads 2 9 single 24 (refusal 16 0)
    ∷ unreads 3 3 single 24 (refusal 16 0)
    ∷ unreads 3 9 single 24 (refusal 16 0)
    ∷ unreads 5 3 single 24 (refusal 16 0)
    ∷ unreads 5 9 single 24 (refusal 16 0)
    ∷ unreads 260 3 single 24 (refusal 16 0)
    ∷ unreads 260 9 single 24 (refusal 16 0)
    ∷ unreads 1 0 single 24 (refusal 16 0)
    ∷ unreads 3 0 single 24 (refusal 16 0)
    ∷ unreads 5 0 single 24 (refusal 16 0)
    ∷ unreads 4 0 single 24 (refusal 1 0)
    ∷ unreads 4 5 single 24 (refusal 1 0)
    ∷ unreads 4 9 single 24 (refusal 1 0)
    ∷ unreads 4 259 single 24 (refusal 1 0)
    ∷ unreads 4 1 single 24 (refusal 16 0)
    ∷ unreads 4 2 single 24 (refusal 16 0)
    ∷ sweeps 300 (λ f. reading f 3 [] 0) 3 (4 ∷ [])
    ∷ sweeps 300 (λ f. reading f 3 [] 0) 16 (run 0 3 ++ run 5 299)
    ∷ sweeps 300 (λ f. reading f 9 [] 0) 1 (4 ∷ [])
    ∷ sweeps 300 (λ f. reading f 9 [] 0) 16 (run 0 3 ++ run 5 299)
    ∷ sweeps 300 (λ e. reading 4 e [] 0) 3 (3 ∷ 4 ∷ [])
    ∷ sweeps 300 (λ e. reading 4 e [] 0) 16 (1 ∷ 2 ∷ [])
    ∷ sweeps 300 (λ e. reading 4 e [] 0) 1 (0 ∷ run 5 299)
    ∷ sweeps 300 (λ e. reading 3 e [] 0) 16 (run 0 299)
    ∷ numbers (reading 3 3 (replicate 65537 0) 0) 16
    ∷ numbers (reading 3 3 single 65537) 16
    ∷ numbers (reading 5 9 (replicate 65537 0) 0) 16
    ∷ numbers (reading 5 9 single 65537) 16
    ∷ numbers (reading 4 9 (replicate 65537 0) 0) 1
    ∷ numbers (reading 4 9 single 65537) 1
    ∷ numbers (reading 4 2 (replicate 65537 0) 0) 16
    ∷ numbers (reading 4 2 single 65537) 16
    -- ---- 2: an image or a buffer of 65,537 bytes, before the image's own and 17
    ∷ unreads 4 3 (replicate 65537 0) 3 (refusal 2 0)
    ∷ unreads 4 3 (replicate 65536 0) 3 (refusal 3 0)
    ∷ unreads 4 3 (onie_of [] (hex "D4 43 1C 19")) 65537 (refusal 2 0)
    ∷ numbers (reading 4 3 no_entries 65536) 17
    -- ---- what an answer says: the payload's length is the count; a refusal has its number and place
    ∷ tells (told_vended (Ok (24, (block_said 8 11 varied)))) (record { number = 0; place = 0; count = 24; part = part_at 0 0; given = [] })
    ∷ tells (told_vended (Ok (16, (block_said 0 3 zeros)))) (record { number = 0; place = 0; count = 16; part = part_at 0 0; given = [] })
    ∷ tells (told_vended (unread 10 44)) (record { number = 10; place = 44; count = 0; part = part_at 0 0; given = [] })
    ∷ tells (told_vended (unread 17 0)) (record { number = 17; place = 0; count = 0; part = part_at 0 0; given = [] })
    ∷ []

pub every-case : map given cases ≡ map wanted cases
unfolding given
every-case = refl
