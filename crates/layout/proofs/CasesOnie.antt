-- Worked cases of ONIE images, as one statement over a list (02, "ONIE images and edition 3", "Real calendar days"; 003).
-- Assumes nothing.
use Prim.Native.Nat.{ℕ, ◌+◌, ◌-◌}
use mathlib.Core.Path.{◌≡◌, refl}
use mathlib.Core.List.{List, [], ◌∷◌, ◌++◌, map}
use lib.ListN.{length, take, drop, replicate}
use Rattle.std.specs.Prelude.{Ok}
use Rattle.layout.specs.declared.Reading.TheVariants.{Plain}
use Rattle.layout.specs.Write.{write_image}
use Rattle.layout.proofs.Cases.{text, hex, run, digits, fourths, headed, onie_as, onie_of, no_entries, bare, field, refuses, made_number, checking, writing, naming}
use Rattle.layout.proofs.Cases.{Case, check32, checks, sweeps, lists, given, wanted}

-- five entries: a text, a number, one that is not named, and two FDh
abbrev pub five_entries : List ℕ
five_entries = hex "21 01 41 2A 02 00 03 99 02 01 02 FD 04 01 02 03 04 FD 04 05 06 07 08"

-- their image
abbrev pub board : List ℕ
board = onie_of five_entries (hex "5F 2E 91 FF")

-- an FDh of n bytes: these four, and zeros. Where the four bring the remainder of the check to 0, the zeros leave it there, and a long image is soon computed
abbrev pub block : List ℕ → ℕ → List ℕ
block w n = 0xFD ∷ n ∷ (w ++ replicate (n - 4) 0)

-- seven FDh of 255 bytes each
abbrev pub seven : List ℕ
seven =
    block (hex "ED CF C7 EB") 255 ++ block (hex "7D 70 10 8C") 255 ++ block (hex "7D 70 10 8C") 255 ++ block (hex "7D 70 10 8C") 255 ++ block (hex "7D 70 10 8C") 255 ++ block (hex "7D 70 10 8C") 255 ++ block (hex "7D 70 10 8C") 255

-- the longest image, which declares 2,048 bytes
abbrev pub longest : List ℕ
longest = onie_of (seven ++ block (hex "7A 5D A8 6B") 241) (hex "72 AD F7 D5")

-- a date, and the same with the byte b at place i
abbrev pub stamp : List ℕ
stamp = text "12/31/2023 23:59:58"

abbrev pub stamp_with : ℕ → ℕ → List ℕ
stamp_with i b = take i stamp ++ (b ∷ drop (i + 1) stamp)

-- the number of a write of two fields with this code and this value, into no bytes: 12 where nothing is wrong with them
abbrev pub writing_twice : ℕ → List ℕ → ℕ
writing_twice c v = made_number (write_image 4 3 (field c 0 (length v) ∷ field c 0 (length v) ∷ []) v []).answer

abbrev pub cases : List Case
cases =
    -- ---- the check of 32 bits; 003's payload
    check32 [] 0
    ∷ check32 (text "123456789") 0xCBF43926
    ∷ check32 (hex "00") 0xD202EF8D
    ∷ check32 (hex "80 01 FF 00") 0x5EFBFE62
    ∷ check32 (hex "FF FF FF FF") 0xFFFFFFFF
    ∷ check32 (hex "08 44 51 30 30 30 4D 50 57 00 09 00 00 00 00 00 00 00 00 00") 0x0260514B
    -- ---- no entries
    ∷ checks 4 3 (hex "54 6C 76 49 6E 66 6F 00 01 00 06 FE 04 D4 43 1C 18") (Ok 0)
    ∷ lists 4 3 no_entries []
    -- ---- the header. 3: shorter than 11 bytes, whatever stands there
    ∷ checks 4 3 (hex "54 6C 76 49 6E 66 6F 00 01 00") (refuses 3 0)
    ∷ checks 4 3 (hex "54 6C 76 49 6E 66 6F 00 02 09") (refuses 3 0)
    ∷ checks 4 3 (hex "54 6C 76 49 6E 66 6F 00 01 00 00") (refuses 5 11)
    -- 3: each byte of the eight, the zero too. An image that declares 0 bytes and has the right ones is 5
    ∷ sweeps 256 (λ b. checking 4 3 (b ∷ hex "6C 76 49 6E 66 6F 00 01 00 00")) 5 (0x54 ∷ [])
    ∷ sweeps 256 (λ b. checking 4 3 (hex "54" ++ (b ∷ hex "76 49 6E 66 6F 00 01 00 00"))) 5 (0x6C ∷ [])
    ∷ sweeps 256 (λ b. checking 4 3 (hex "54 6C" ++ (b ∷ hex "49 6E 66 6F 00 01 00 00"))) 5 (0x76 ∷ [])
    ∷ sweeps 256 (λ b. checking 4 3 (hex "54 6C 76" ++ (b ∷ hex "6E 66 6F 00 01 00 00"))) 5 (0x49 ∷ [])
    ∷ sweeps 256 (λ b. checking 4 3 (hex "54 6C 76 49" ++ (b ∷ hex "66 6F 00 01 00 00"))) 5 (0x6E ∷ [])
    ∷ sweeps 256 (λ b. checking 4 3 (hex "54 6C 76 49 6E" ++ (b ∷ hex "6F 00 01 00 00"))) 5 (0x66 ∷ [])
    ∷ sweeps 256 (λ b. checking 4 3 (hex "54 6C 76 49 6E 66" ++ (b ∷ hex "00 01 00 00"))) 5 (0x6F ∷ [])
    ∷ sweeps 256 (λ b. checking 4 3 (hex "54 6C 76 49 6E 66 6F" ++ (b ∷ hex "01 00 00"))) 5 (0x00 ∷ [])
    ∷ sweeps 256 (λ b. checking 4 3 (hex "54 6C 76 49 6E 66 6F" ++ (b ∷ hex "01 00 00"))) 3 (run 1 255)
    ∷ checks 4 3 (hex "74 6C 76 49 6E 66 6F 00 01 00 06 FE 04 D4 43 1C 18") (refuses 3 0)
    ∷ checks 4 3 (hex "54 6C 76 49 6E 66 6F 01 01 00 06 FE 04 D4 43 1C 18") (refuses 3 0)
    -- 4: the version is 01h
    ∷ checks 4 3 (hex "54 6C 76 49 6E 66 6F 00 00 00 06 FE 04 D4 43 1C 18") (refuses 4 0)
    ∷ checks 4 3 (hex "54 6C 76 49 6E 66 6F 00 02 00 06 FE 04 D4 43 1C 18") (refuses 4 0)
    ∷ sweeps 256 (λ b. checking 4 3 (hex "54 6C 76 49 6E 66 6F 00" ++ (b ∷ hex "00 00"))) 4 (0 ∷ run 2 255)
    -- 3 before 4 before 5
    ∷ checks 4 3 (hex "54 6C 76 49 6E 66 6F 01 02 FF FF") (refuses 3 0)
    ∷ checks 4 3 (hex "54 6C 76 49 6E 66 6F 01 01 FF FF") (refuses 3 0)
    ∷ checks 4 3 (hex "54 6C 76 49 6E 66 6F 00 02 FF FF") (refuses 4 0)
    ∷ checks 4 3 (hex "54 6C 76 49 6E 66 6F 00 01 FF FF") (refuses 5 9)
    -- ---- the declared length. 5 at 9, before the walk: above 2,048, with bytes enough and a right check
    ∷ checks 4 3 (onie_of (seven ++ block (hex "C0 0C A1 F2") 242) (hex "99 38 3F A7")) (refuses 5 9)
    ∷ checks 4 3 (headed 2049 (replicate 2049 0x00)) (refuses 5 9)
    ∷ checks 4 3 (headed 2048 (replicate 2048 0x00)) (refuses 6 11)
    ∷ checks 4 3 (headed 65535 (replicate 65525 0x00)) (refuses 5 9)
    -- 2,048: an image of 2,059 bytes
    ∷ checks 4 3 longest (Ok 8)
    -- 5 at 9, before the walk: one byte past the image
    ∷ checks 4 3 (hex "54 6C 76 49 6E 66 6F 00 01 00 06 FE 04 D4 43 1C") (refuses 5 9)
    ∷ checks 4 3 (headed 1 []) (refuses 5 9)
    ∷ checks 4 3 (headed 2 (hex "00")) (refuses 5 9)
    ∷ checks 4 3 (headed 1 (hex "00")) (refuses 6 11)
    ∷ checks 4 3 (headed 2048 (replicate 2047 0x00)) (refuses 5 9)
    ∷ checks 4 3 (onie_as 7 [] (hex "D5 81 76 2F")) (refuses 5 9)
    -- 5 at 9, after the walk: bytes between the check and the declared end, whatever they are, with a right check and, before 10, with a wrong one
    ∷ checks 4 3 (onie_as 7 [] (hex "D5 81 76 2F") ++ hex "00") (refuses 5 9)
    ∷ checks 4 3 (onie_as 7 [] (hex "D5 81 76 2E") ++ hex "00") (refuses 5 9)
    ∷ checks 4 3 (onie_as 12 [] (hex "D9 D4 99 CE") ++ hex "FE 04 D4 43 1C 18") (refuses 5 9)
    ∷ checks 4 3 (headed 12 (hex "FE 04 00 00 00 00 FE 03 00 00 00 00")) (refuses 5 9)
    ∷ checks 4 3 (onie_as 10 (hex "21 01 41") (hex "53 65 51 65") ++ hex "21") (refuses 5 9)
    ∷ checks 4 3 (headed 10 (hex "21 01 7F FE 04 00 00 00 00 FF")) (refuses 5 9)
    ∷ checks 4 3 (onie_as 262 [] (hex "6C FF 7B 7D") ++ replicate 256 0xFF) (refuses 5 9)
    -- the walk's own before it
    ∷ checks 4 3 (headed 9 (hex "00 00 FE 04 00 00 00 00 00")) (refuses 6 11)
    ∷ checks 4 3 (headed 11 (hex "FE 03 00 00 00 FE 04 00 00 00 00")) (refuses 6 11)
    ∷ checks 4 3 (headed 7 (hex "21 06 FE 04 00 00 00 00")) (refuses 5 11)
    -- lengths below 6 are the walk's: 5 at 11
    ∷ checks 4 3 (headed 0 (hex "FE 04 D4 43 1C 18")) (refuses 5 11)
    ∷ checks 4 3 (headed 1 (hex "FE 04 D4 43 1C 18")) (refuses 5 11)
    ∷ checks 4 3 (headed 2 (hex "FE 04 D4 43 1C 18")) (refuses 5 11)
    ∷ checks 4 3 (headed 3 (hex "FE 04 D4 43 1C 18")) (refuses 5 11)
    ∷ checks 4 3 (headed 4 (hex "FE 04 D4 43 1C 18")) (refuses 5 11)
    ∷ checks 4 3 (headed 5 (hex "FE 04 D4 43 1C 18")) (refuses 5 11)
    ∷ checks 4 3 (headed 6 (hex "FE 04 D4 43 1C 18")) (Ok 0)
    ∷ sweeps 20 (λ d. checking 4 3 (headed d (hex "FE 04 00 00 00 00 00 00 00 00"))) 10 (6 ∷ [])
    ∷ sweeps 20 (λ d. checking 4 3 (headed d (hex "FE 04 00 00 00 00 00 00 00 00"))) 5 (run 0 5 ++ run 7 19)
    -- high byte first, both bytes in use; a low byte of 00h and of FFh
    ∷ checks 4 3 (onie_of (block (hex "43 CC 45 E5") 254) (hex "72 AD F7 D5")) (Ok 1)
    ∷ checks 4 3 (onie_of (block (hex "C4 15 AB 08") 248) (hex "72 AD F7 D5")) (Ok 1)
    ∷ checks 4 3 (onie_of (block (hex "DD 5B 30 9E") 247) (hex "72 AD F7 D5")) (Ok 1)
    ∷ checks 4 3 (onie_of (block (hex "E2 96 80 93") 255) (hex "72 AD F7 D5")) (Ok 1)
    ∷ checks 4 3 (hex "54 6C 76 49 6E 66 6F 00 01 06 00 FE 04 D4 43 1C 18") (refuses 5 9)
    -- a number that is no byte is no part of a length
    ∷ checks 4 3 (hex "54 6C 76 49 6E 66 6F 00 01 00" ++ (256 ∷ replicate 256 0x00)) (refuses 5 9)
    ∷ checks 4 3 (hex "54 6C 76 49 6E 66 6F 00 01 00" ++ (255 ∷ replicate 255 0x00)) (refuses 6 11)
    -- bytes from the declared end on are not looked at
    ∷ checks 4 3 (no_entries ++ hex "00") (Ok 0)
    ∷ checks 4 3 (no_entries ++ hex "FE 04 00 00 00 00 21 01") (Ok 0)
    ∷ checks 4 3 (board ++ hex "FF FF 00") (Ok 5)
    -- ---- frames. 6: codes 00h and FFh, with a length byte or none (00h with none: above)
    ∷ checks 4 3 (headed 1 (hex "FF")) (refuses 6 11)
    ∷ checks 4 3 (headed 2 (hex "00 00")) (refuses 6 11)
    ∷ checks 4 3 (headed 2 (hex "FF 00")) (refuses 6 11)
    ∷ checks 4 3 (headed 4 (hex "21 01 41 00")) (refuses 6 14)
    ∷ checks 4 3 (headed 4 (hex "21 01 41 FF")) (refuses 6 14)
    ∷ checks 4 3 (headed 10 (hex "21 01 41 FF FE 04 00 00 00 00")) (refuses 6 14)
    ∷ sweeps 256 (λ c. checking 4 3 (headed 1 (c ∷ []))) 6 (0x00 ∷ 0xFF ∷ [])
    ∷ sweeps 256 (λ c. checking 4 3 (headed 1 (c ∷ []))) 5 (run 0x01 0xFE)
    -- 6: FEh with another length than 4, its value there or not
    ∷ checks 4 3 (headed 2 (hex "FE 03")) (refuses 6 11)
    ∷ checks 4 3 (headed 5 (hex "FE 03 00 00 00")) (refuses 6 11)
    ∷ checks 4 3 (headed 2 (hex "FE 05")) (refuses 6 11)
    ∷ checks 4 3 (headed 7 (hex "FE 05 00 00 00 00 00")) (refuses 6 11)
    ∷ checks 4 3 (headed 13 (hex "FE 05 00 00 00 00 00 FE 04 00 00 00 00")) (refuses 6 11)
    ∷ checks 4 3 (headed 5 (hex "21 01 41 FE 03")) (refuses 6 14)
    ∷ sweeps 256 (λ n. checking 4 3 (headed 6 (0xFE ∷ n ∷ hex "00 00 00 00"))) 6 (run 0 3 ++ run 5 255)
    ∷ sweeps 256 (λ n. checking 4 3 (headed 2 (0xFE ∷ n ∷ []))) 6 (run 0 3 ++ run 5 255)
    ∷ sweeps 256 (λ c. checking 4 3 (headed 2 (c ∷ 0 ∷ []))) 6 (0x00 ∷ 0xFE ∷ 0xFF ∷ [])
    ∷ sweeps 256 (λ c. checking 4 3 (headed 2 (c ∷ 0 ∷ []))) 5 (run 0x01 0xFD)
    -- 5: no FEh in the room, and one right after it; a code alone; FE at the room's end; FE 04 with fewer than four bytes
    ∷ checks 4 3 (headed 3 (hex "21 01 41")) (refuses 5 14)
    ∷ checks 4 3 (headed 3 (hex "21 01 41 FE 04 00 00 00 00")) (refuses 5 14)
    ∷ checks 4 3 (headed 6 (hex "21 01 41 22 01 42")) (refuses 5 17)
    ∷ checks 4 3 (headed 1 (hex "21")) (refuses 5 11)
    ∷ checks 4 3 (headed 1 (hex "21 00")) (refuses 5 11)
    ∷ checks 4 3 (headed 1 (hex "FE")) (refuses 5 11)
    ∷ checks 4 3 (headed 4 (hex "21 01 41 FE")) (refuses 5 14)
    ∷ checks 4 3 (headed 4 (hex "21 01 41 FE 04 00 00 00 00")) (refuses 5 14)
    ∷ checks 4 3 (headed 4 (hex "21 01 41 FE 03 00 00 00")) (refuses 5 14)
    ∷ checks 4 3 (headed 5 (hex "21 01 41 FE 04")) (refuses 5 14)
    ∷ checks 4 3 (headed 8 (hex "21 01 41 FE 04 00 00 00")) (refuses 5 14)
    ∷ checks 4 3 (headed 8 (hex "21 01 41 FE 04 00 00 00 00")) (refuses 5 14)
    -- 5: a value past the room, though inside the image
    ∷ checks 4 3 (headed 2 (hex "21 01")) (refuses 5 11)
    ∷ checks 4 3 (headed 2 (hex "21 01 41")) (refuses 5 11)
    ∷ checks 4 3 (headed 3 (hex "21 02 41 42 FE 04 00 00 00 00")) (refuses 5 11)
    ∷ checks 4 3 (headed 9 (hex "21 01 41 22 05 41 42 43 44 FE 04 00 00 00 00")) (refuses 5 14)
    ∷ checks 4 3 (headed 257 (hex "21 FF" ++ replicate 255 0x41)) (refuses 5 268)
    ∷ checks 4 3 (headed 256 (hex "21 FF" ++ replicate 255 0x41)) (refuses 5 11)
    -- FBOSS's end is an entry like any other, and the walk ends at the first FE 04
    ∷ lists 4 3 (onie_of (hex "FA 02 FE 04") (hex "C4 AC EC D3")) (bare 0xFA 0 11 4 13 2 Plain ∷ [])
    ∷ lists 4 3 (onie_of (hex "FB 00 01 01 FE") (hex "FE 8D 90 BE")) (bare 0xFB 0 11 2 13 0 Plain ∷ bare 0x01 0 13 3 15 1 Plain ∷ [])
    ∷ lists 4 3 (onie_of (hex "FA 02 FE 04") (hex "C4 AC EC D3") ++ hex "21 01 41 FE 04 00 00 00 00") (bare 0xFA 0 11 4 13 2 Plain ∷ [])
    -- ---- 10: two bytes after FEh. High byte first, over all up to and including FE 04, with the final change; each byte of it
    ∷ checks 4 3 (onie_of (hex "21 01 41") (hex "D5 F1 23 CB")) (Ok 1)
    ∷ checks 4 3 (onie_of (hex "21 01 41") (hex "D4 F1 23 CB")) (refuses 10 16)
    ∷ checks 4 3 (onie_of (hex "21 01 41") (hex "D5 71 23 CB")) (refuses 10 16)
    ∷ checks 4 3 (onie_of (hex "21 01 41") (hex "D5 F1 22 CB")) (refuses 10 16)
    ∷ checks 4 3 (onie_of (hex "21 01 41") (hex "D5 F1 23 4B")) (refuses 10 16)
    ∷ checks 4 3 (onie_of (hex "21 01 41") (hex "CB 23 F1 D5")) (refuses 10 16)
    ∷ checks 4 3 (onie_of (hex "21 01 41") (hex "63 A0 D3 DF")) (refuses 10 16)
    ∷ checks 4 3 (onie_of (hex "21 01 41") (hex "2A 0E DC 34")) (refuses 10 16)
    ∷ checks 4 3 (hex "54 6C 76 49 6E 66 6F 00 01 00 06 FE 04 D4 43 1C 19") (refuses 10 13)
    ∷ checks 4 3 (hex "54 6C 76 49 6E 66 6F 00 01 00 06 FE 04 18 1C 43 D4") (refuses 10 13)
    -- checks of bytes 00h and FFh alone
    ∷ checks 4 3 (onie_of (hex "FD 04 D3 9A 7F 75") (hex "00 FF FF FF")) (Ok 1)
    ∷ checks 4 3 (onie_of (hex "FD 04 C5 07 33 DA") (hex "FF 00 00 00")) (Ok 1)
    ∷ checks 4 3 (onie_of (hex "FD 04 40 13 C1 44") (hex "FF FF FF FF")) (Ok 1)
    -- after the frames, before 7 and 8
    ∷ checks 4 3 (onie_of (hex "21 01 7F") (hex "FB 04 EB 51")) (refuses 7 11)
    ∷ checks 4 3 (onie_of (hex "21 01 7F") (hex "FB 04 EB 50")) (refuses 10 16)
    ∷ checks 4 3 (onie_of (hex "21 01 41 21 01 41") (hex "9C 4E A7 A4")) (refuses 10 19)
    ∷ checks 4 3 (headed 10 (hex "21 01 7F 00 FE 04 00 00 00 00")) (refuses 6 14)
    -- ---- 7 in the reader. Text, each byte 20h to 7Eh, of any length
    ∷ checks 4 3 (onie_of (hex "21 02 20 7E 22 02 20 7E 23 02 20 7E 2B 02 20 7E 2D 02 20 7E") (hex "D8 E5 C8 94")) (Ok 5)
    ∷ checks 4 3 (onie_of (hex "21 00 22 00 23 00 2B 00 2D 00") (hex "61 BA 66 2B")) (Ok 5)
    ∷ checks 4 3 (onie_of (hex "21 01 1F") (hex "B3 D3 20 71")) (refuses 7 11)
    ∷ checks 4 3 (onie_of (hex "22 01 7F") (hex "BC A4 91 81")) (refuses 7 11)
    ∷ checks 4 3 (onie_of (hex "23 03 41 42 1F") (hex "99 47 BA 3F")) (refuses 7 11)
    ∷ checks 4 3 (onie_of (hex "2B 03 FF 41 42") (hex "73 8E 50 20")) (refuses 7 11)
    ∷ checks 4 3 (onie_of (hex "21 01 41 2D 01 00") (hex "28 E6 AD 53")) (refuses 7 14)
    -- six bytes; two bytes; two capitals; at least four bytes
    ∷ checks 4 3 (onie_of (hex "24 06 00 00 00 00 00 00 2A 02 00 00 2C 02 41 5A FD 04 FF 00 7F 80") (hex "D6 43 39 D8")) (Ok 4)
    ∷ checks 4 3 (onie_of (hex "24 05 00 00 00 00 00") (hex "33 1D FB 84")) (refuses 7 11)
    ∷ checks 4 3 (onie_of (hex "24 07 00 00 00 00 00 00 00") (hex "30 75 D8 F9")) (refuses 7 11)
    ∷ checks 4 3 (onie_of (hex "2A 01 00") (hex "D3 79 F5 2D")) (refuses 7 11)
    ∷ checks 4 3 (onie_of (hex "2A 03 00 00 00") (hex "4F 2B FA EE")) (refuses 7 11)
    ∷ checks 4 3 (onie_of (hex "2C 01 41") (hex "2D 61 E7 7A")) (refuses 7 11)
    ∷ checks 4 3 (onie_of (hex "2C 02 40 41") (hex "8B 37 65 63")) (refuses 7 11)
    ∷ checks 4 3 (onie_of (hex "2C 02 41 5B") (hex "22 3A 24 A0")) (refuses 7 11)
    ∷ checks 4 3 (onie_of (hex "2C 03 41 41 41") (hex "1B 98 66 82")) (refuses 7 11)
    ∷ checks 4 3 (onie_of (hex "FD 03 00 00 1F") (hex "36 35 23 68")) (refuses 7 11)
    ∷ checks 4 3 (onie_of (hex "FD 00") (hex "F0 1D B3 D3")) (refuses 7 11)
    ∷ checks 4 3 (onie_of (hex "FD 04 00 00 00 00 FD 03 00 00 00") (hex "97 B2 69 DF")) (refuses 7 17)
    -- the date: 19 bytes, a day and a time of it
    ∷ checks 4 3 (onie_of (hex "25 13" ++ text "12/31/9999 23:59:59") (hex "97 01 92 3E")) (Ok 1)
    ∷ checks 4 3 (onie_of (hex "25 13" ++ text "02/29/2000 00:00:00") (hex "1B 47 D8 32")) (Ok 1)
    ∷ checks 4 3 (onie_of (hex "25 13" ++ text "99/99/9999 99:99:99") (hex "94 AC 2E 84")) (refuses 7 11)
    ∷ checks 4 3 (onie_of (hex "25 13" ++ text "02/29/1900 00:00:00") (hex "A4 6C 4D 0B")) (refuses 7 11)
    ∷ checks 4 3 (onie_of (hex "25 13" ++ text "31/12/2023 23:59:58") (hex "F6 BC 8A C5")) (refuses 7 11)
    ∷ checks 4 3 (onie_of (hex "25 13" ++ text "12/31/0000 23:59:58") (hex "54 DB 20 5F")) (refuses 7 11)
    ∷ checks 4 3 (onie_of (hex "25 13" ++ text "12/31/2023 24:00:00") (hex "C3 04 44 59")) (refuses 7 11)
    ∷ checks 4 3 (onie_of (hex "25 13" ++ text "12/31/2023 23:60:00") (hex "C4 B5 1C AA")) (refuses 7 11)
    ∷ checks 4 3 (onie_of (hex "25 13" ++ text "12/31/2023 23:59:60") (hex "F7 39 08 23")) (refuses 7 11)
    ∷ checks 4 3 (onie_of (hex "25 12" ++ text "12/31/2023 23:59:5") (hex "5A CB 38 67")) (refuses 7 11)
    ∷ checks 4 3 (onie_of (hex "25 14" ++ text "12/31/2023 23:59:588") (hex "36 73 B6 12")) (refuses 7 11)
    ∷ checks 4 3 (onie_of (hex "25 13" ++ text "12-31-2023 23:59:58") (hex "18 8B D5 E7")) (refuses 7 11)
    ∷ checks 4 3 (onie_of (hex "25 00") (hex "13 FD 22 A5")) (refuses 7 11)
    -- no rule on what is not named
    ∷ checks 4 3 (onie_of (hex "20 01 7F 26 00 27 01 7F 28 01 FF 29 03 00 00 00 2E 01 00 2F 01 FF FC 00 01 00 A1 01 7F") (hex "53 15 22 8F")) (Ok 10)
    -- ---- the same rules, by writes of one field: the number 12 says that no rule is broken. The codes that take these bytes
    ∷ sweeps 300 (λ c. writing 4 3 c []) 12 (0x21 ∷ 0x22 ∷ 0x23 ∷ 0x2B ∷ 0x2D ∷ [])
    ∷ sweeps 300 (λ c. writing 4 3 c (hex "1F")) 12 []
    ∷ sweeps 300 (λ c. writing 4 3 c (hex "20")) 12 (0x21 ∷ 0x22 ∷ 0x23 ∷ 0x2B ∷ 0x2D ∷ [])
    ∷ sweeps 300 (λ c. writing 4 3 c (hex "7E")) 12 (0x21 ∷ 0x22 ∷ 0x23 ∷ 0x2B ∷ 0x2D ∷ [])
    ∷ sweeps 300 (λ c. writing 4 3 c (hex "7F")) 12 []
    ∷ sweeps 300 (λ c. writing 4 3 c (hex "7F")) 7 (run 0x21 0x25 ++ run 0x2A 0x2D ++ (0xFD ∷ []))
    ∷ sweeps 300 (λ c. writing 4 3 c (hex "7F")) 14 (run 0x00 0x20 ++ run 0x26 0x29 ++ run 0x2E 0xFC ++ run 0xFE 299)
    ∷ sweeps 300 (λ c. writing 4 3 c (hex "00 00")) 12 (0x2A ∷ [])
    ∷ sweeps 300 (λ c. writing 4 3 c (text "CZ")) 12 (0x21 ∷ 0x22 ∷ 0x23 ∷ run 0x2A 0x2D)
    ∷ sweeps 300 (λ c. writing 4 3 c (text "cz")) 12 (0x21 ∷ 0x22 ∷ 0x23 ∷ 0x2A ∷ 0x2B ∷ 0x2D ∷ [])
    ∷ sweeps 300 (λ c. writing 4 3 c (hex "00 00 00")) 12 []
    ∷ sweeps 300 (λ c. writing 4 3 c (hex "00 00 00 00")) 12 (0xFD ∷ [])
    ∷ sweeps 300 (λ c. writing 4 3 c (hex "00 00 00 00 00 00")) 12 (0x24 ∷ 0xFD ∷ [])
    ∷ sweeps 300 (λ c. writing 4 3 c stamp) 12 (0x21 ∷ 0x22 ∷ 0x23 ∷ 0x25 ∷ 0x2B ∷ 0x2D ∷ 0xFD ∷ [])
    -- the bytes of text, and of two capitals
    ∷ sweeps 256 (λ b. writing 4 3 0x21 (b ∷ [])) 12 (run 0x20 0x7E)
    ∷ sweeps 256 (λ b. writing 4 3 0x22 (0x41 ∷ b ∷ [])) 12 (run 0x20 0x7E)
    ∷ sweeps 256 (λ b. writing 4 3 0x23 (b ∷ 0x41 ∷ [])) 12 (run 0x20 0x7E)
    ∷ sweeps 256 (λ b. writing 4 3 0x2B (b ∷ [])) 12 (run 0x20 0x7E)
    ∷ sweeps 256 (λ b. writing 4 3 0x2D (b ∷ [])) 12 (run 0x20 0x7E)
    ∷ sweeps 256 (λ b. writing 4 3 0x2C (b ∷ 0x5A ∷ [])) 12 (run 0x41 0x5A)
    ∷ sweeps 256 (λ b. writing 4 3 0x2C (0x41 ∷ b ∷ [])) 12 (run 0x41 0x5A)
    -- the lengths that a code takes
    ∷ sweeps 20 (λ n. writing 4 3 0x21 (replicate n 0x41)) 12 (run 0 19)
    ∷ sweeps 20 (λ n. writing 4 3 0x22 (replicate n 0x41)) 12 (run 0 19)
    ∷ sweeps 20 (λ n. writing 4 3 0x23 (replicate n 0x41)) 12 (run 0 19)
    ∷ sweeps 20 (λ n. writing 4 3 0x24 (replicate n 0x41)) 12 (6 ∷ [])
    ∷ sweeps 24 (λ n. writing 4 3 0x25 (take n (stamp ++ text "00000"))) 12 (19 ∷ [])
    ∷ sweeps 20 (λ n. writing 4 3 0x2A (replicate n 0x41)) 12 (2 ∷ [])
    ∷ sweeps 20 (λ n. writing 4 3 0x2B (replicate n 0x41)) 12 (run 0 19)
    ∷ sweeps 20 (λ n. writing 4 3 0x2C (replicate n 0x41)) 12 (2 ∷ [])
    ∷ sweeps 20 (λ n. writing 4 3 0x2D (replicate n 0x41)) 12 (run 0 19)
    ∷ sweeps 20 (λ n. writing 4 3 0xFD (replicate n 0x00)) 12 (run 4 19)
    -- no rule on the bytes of an address, a number or an FDh
    ∷ sweeps 256 (λ b. writing 4 3 0x24 (replicate 6 b)) 12 (run 0 255)
    ∷ sweeps 256 (λ b. writing 4 3 0x2A (replicate 2 b)) 12 (run 0 255)
    ∷ sweeps 256 (λ b. writing 4 3 0xFD (replicate 4 b)) 12 (run 0 255)
    -- month, day, hour, minute and second of a date
    ∷ sweeps 100 (λ n. writing 4 3 0x25 (digits n ++ text "/15/2023 23:59:58")) 12 (run 1 12)
    ∷ sweeps 100 (λ n. writing 4 3 0x25 (text "12/" ++ digits n ++ text "/2023 23:59:58")) 12 (run 1 31)
    ∷ sweeps 100 (λ n. writing 4 3 0x25 (text "04/" ++ digits n ++ text "/2023 23:59:58")) 12 (run 1 30)
    ∷ sweeps 100 (λ n. writing 4 3 0x25 (text "02/" ++ digits n ++ text "/2024 23:59:58")) 12 (run 1 29)
    ∷ sweeps 100 (λ n. writing 4 3 0x25 (text "02/29/" ++ digits n ++ text "00 23:59:58")) 12 (fourths 24 4)
    ∷ sweeps 100 (λ n. writing 4 3 0x25 (text "02/29/19" ++ digits n ++ text " 23:59:58")) 12 (fourths 24 4)
    ∷ sweeps 100 (λ n. writing 4 3 0x25 (text "12/31/2023 " ++ digits n ++ text ":59:58")) 12 (run 0 23)
    ∷ sweeps 100 (λ n. writing 4 3 0x25 (text "12/31/2023 23:" ++ digits n ++ text ":58")) 12 (run 0 59)
    ∷ sweeps 100 (λ n. writing 4 3 0x25 (text "12/31/2023 23:59:" ++ digits n)) 12 (run 0 59)
    -- each byte of a date
    ∷ sweeps 256 (λ b. writing 4 3 0x25 (stamp_with 0 b)) 12 (0x31 ∷ [])
    ∷ sweeps 64 (λ b. writing 4 3 0x25 (stamp_with 1 b)) 12 (0x30 ∷ 0x32 ∷ [])
    ∷ sweeps 64 (λ b. writing 4 3 0x25 (stamp_with 2 b)) 12 (0x2F ∷ [])
    ∷ sweeps 64 (λ b. writing 4 3 0x25 (stamp_with 3 b)) 12 (run 0x30 0x33)
    ∷ sweeps 64 (λ b. writing 4 3 0x25 (stamp_with 4 b)) 12 (0x30 ∷ 0x31 ∷ [])
    ∷ sweeps 64 (λ b. writing 4 3 0x25 (stamp_with 5 b)) 12 (0x2F ∷ [])
    ∷ sweeps 64 (λ b. writing 4 3 0x25 (stamp_with 6 b)) 12 (run 0x30 0x39)
    ∷ sweeps 64 (λ b. writing 4 3 0x25 (stamp_with 7 b)) 12 (run 0x30 0x39)
    ∷ sweeps 64 (λ b. writing 4 3 0x25 (stamp_with 8 b)) 12 (run 0x30 0x39)
    ∷ sweeps 64 (λ b. writing 4 3 0x25 (stamp_with 9 b)) 12 (run 0x30 0x39)
    ∷ sweeps 64 (λ b. writing 4 3 0x25 (stamp_with 10 b)) 12 (0x20 ∷ [])
    ∷ sweeps 64 (λ b. writing 4 3 0x25 (stamp_with 11 b)) 12 (run 0x30 0x32)
    ∷ sweeps 64 (λ b. writing 4 3 0x25 (stamp_with 12 b)) 12 (run 0x30 0x33)
    ∷ sweeps 64 (λ b. writing 4 3 0x25 (stamp_with 13 b)) 12 (0x3A ∷ [])
    ∷ sweeps 64 (λ b. writing 4 3 0x25 (stamp_with 14 b)) 12 (run 0x30 0x35)
    ∷ sweeps 64 (λ b. writing 4 3 0x25 (stamp_with 15 b)) 12 (run 0x30 0x39)
    ∷ sweeps 64 (λ b. writing 4 3 0x25 (stamp_with 16 b)) 12 (0x3A ∷ [])
    ∷ sweeps 64 (λ b. writing 4 3 0x25 (stamp_with 17 b)) 12 (run 0x30 0x35)
    ∷ sweeps 64 (λ b. writing 4 3 0x25 (stamp_with 18 b)) 12 (run 0x30 0x39)
    -- ---- 8: at the second, for every named code but FDh; what is not named may repeat
    ∷ checks 4 3 (onie_of (hex "21 00 21 00") (hex "BF AB 52 4C")) (refuses 8 13)
    ∷ checks 4 3 (onie_of (hex "22 00 21 00 22 01 41") (hex "13 C8 42 B4")) (refuses 8 15)
    ∷ checks 4 3 (onie_of (hex "23 01 41 99 00 23 01 42") (hex "9A F6 90 4C")) (refuses 8 16)
    ∷ checks 4 3 (onie_of (hex "24 06 00 00 00 00 00 00 24 06 00 00 00 00 00 01") (hex "7A 1B 6A 73")) (refuses 8 19)
    ∷ checks 4 3 (onie_of (hex "25 13" ++ text "12/31/2023 23:59:58" ++ hex "25 13" ++ text "12/31/2023 23:59:59") (hex "86 BC E4 37")) (refuses 8 32)
    ∷ checks 4 3 (onie_of (hex "2A 02 00 00 2A 02 00 01") (hex "50 FF 02 C7")) (refuses 8 15)
    ∷ checks 4 3 (onie_of (hex "2B 00 2B 00") (hex "71 8D 91 4E")) (refuses 8 13)
    ∷ checks 4 3 (onie_of (hex "2C 02 41 41 2C 02 42 42") (hex "CF 32 8E 0C")) (refuses 8 15)
    ∷ checks 4 3 (onie_of (hex "2D 00 2D 00") (hex "82 BF 2D 8F")) (refuses 8 13)
    ∷ checks 4 3 (onie_of (hex "FD 04 00 00 00 00 FD 04 00 00 00 00 FD 05 00 00 00 00 00") (hex "BD F9 B8 F4")) (Ok 3)
    ∷ checks 4 3 (onie_of (hex "26 00 26 00 FC 01 7F FC 01 7F") (hex "CA 11 88 8C")) (Ok 4)
    ∷ checks 4 3 (onie_of (hex "21 00 FD 04 00 00 00 00 22 00 FD 04 00 00 00 00 21 00") (hex "1C 4F 9E C9")) (refuses 8 27)
    ∷ sweeps 300 (λ c. writing_twice c (hex "")) 8 (0x21 ∷ 0x22 ∷ 0x23 ∷ 0x2B ∷ 0x2D ∷ [])
    ∷ sweeps 300 (λ c. writing_twice c (text "CZ")) 8 (0x21 ∷ 0x22 ∷ 0x23 ∷ run 0x2A 0x2D)
    ∷ sweeps 300 (λ c. writing_twice c (hex "00 00 00 00 00 00")) 8 (0x24 ∷ [])
    ∷ sweeps 300 (λ c. writing_twice c (hex "00 00 00 00 00 00")) 12 (0xFD ∷ [])
    ∷ sweeps 300 (λ c. writing_twice c stamp) 8 (0x21 ∷ 0x22 ∷ 0x23 ∷ 0x25 ∷ 0x2B ∷ 0x2D ∷ [])
    -- 7 before 8, and one entry before the next
    ∷ checks 4 3 (onie_of (hex "21 01 41 21 01 7F") (hex "B2 BB 6F 3F")) (refuses 7 14)
    ∷ checks 4 3 (onie_of (hex "21 00 21 00 22 01 7F") (hex "04 B0 B6 EB")) (refuses 8 13)
    ∷ checks 4 3 (onie_of (hex "22 01 7F 21 00 21 00") (hex "0A 13 32 FE")) (refuses 7 11)
    -- ---- the codes that edition 3 names: 13, and 14 for any other
    ∷ sweeps 300 (λ c. naming 4 3 c) 13 (run 0x21 0x25 ++ run 0x2A 0x2D ++ (0xFD ∷ []))
    ∷ sweeps 300 (λ c. naming 4 4 c) 13 (run 0x21 0x25 ++ run 0x2A 0x2D ++ (0xFD ∷ []))
    ∷ sweeps 300 (λ c. naming 4 3 c) 14 (run 0x00 0x20 ++ run 0x26 0x29 ++ run 0x2E 0xFC ++ run 0xFE 299)
    ∷ []

pub every-case : map given cases ≡ map wanted cases
unfolding given
every-case = refl
