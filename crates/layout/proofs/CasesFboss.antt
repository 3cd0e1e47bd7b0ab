-- Worked cases of FBOSS images, as one statement over a list (01, "FBOSS v5 (000)"; 02, "Real calendar days").
-- Assumes nothing.
use Prim.Native.Nat.{ℕ}
use mathlib.Core.Path.{◌≡◌, refl}
use mathlib.Core.List.{List, [], ◌∷◌, ◌++◌, map}
use lib.ListN.{length, replicate}
use Rattle.std.specs.Prelude.{Ok}
use Rattle.layout.specs.declared.Reading.TheVariants.{Plain, Text, Number, Addresses, Dated}
use Rattle.layout.specs.declared.Entry.{Entry}
use Rattle.layout.specs.Bytes.{part_at}
use Rattle.layout.specs.Calendar.{date}
use Rattle.layout.proofs.Cases.{text, hex, run, digits, fourths, fboss_of, five, board_with, with_block, bare, refuses, misses, nowhere, checking, writing, naming}
use Rattle.layout.proofs.Cases.{Case, check16, check8, checks, alike, sweeps, lists, finds, values, steps, given, wanted}

-- an image with every code that edition 2 names, 1 to 20 in order: 16 entries that every edition names, and four address blocks
abbrev pub every_code : List ℕ
every_code =
    fboss_of
    (hex "01 08" ++ text "Minipack" ++ hex "02 06" ++ text "20-123" ++ hex "03 08" ++ text "12345678" ++ hex "04 0C" ++ text "1234567890AB"
    ++ hex "05 0C" ++ text "BA0987654321" ++ hex "06 00 07 02 20 7E 08 01 05 09 01 00 0A 01 FF 0B 02" ++ text "S1" ++ hex "0C 01" ++ text "M"
    ++ hex "0D 08" ++ text "20231231" ++ hex "0E 01" ++ text "F" ++ hex "0F 02" ++ text "LC" ++ hex "10 03" ++ text "R12"
    ++ hex "11 08 01 23 45 67 89 AB 01 02 12 08 FF FF FF FF FF FF FF FF 13 08 00 00 00 00 00 01 00 00 14 08 02 00 00 00 00 00 00 0A")
    0x1B90

-- its first 16 records, alike in every edition
abbrev pub first_sixteen : List Entry
first_sixteen =
    bare 1 257 4 10 6 8 Text
    ∷ bare 2 258 14 8 16 6 Text
    ∷ bare 3 259 22 10 24 8 Text
    ∷ bare 4 260 32 14 34 12 Text
    ∷ bare 5 261 46 14 48 12 Text
    ∷ bare 6 262 60 2 62 0 Text
    ∷ bare 7 263 62 4 64 2 Text
    ∷ bare 8 264 66 3 68 1 (Number 5)
    ∷ bare 9 265 69 3 71 1 (Number 0)
    ∷ bare 10 266 72 3 74 1 (Number 255)
    ∷ bare 11 267 75 4 77 2 Text
    ∷ bare 12 268 79 3 81 1 Text
    ∷ bare 13 269 82 10 84 8 (Dated (date 2023 12 31))
    ∷ bare 14 270 92 3 94 1 Text
    ∷ bare 15 271 95 4 97 2 Text
    ∷ bare 16 272 99 5 101 3 Text
    ∷ []

-- the last four, as edition 1 lists them, which does not name them
abbrev pub four_unnamed : List Entry
four_unnamed = bare 17 0 104 10 106 8 Plain ∷ bare 18 0 114 10 116 8 Plain ∷ bare 19 0 124 10 126 8 Plain ∷ bare 20 0 134 10 136 8 Plain ∷ []

-- and as editions 2 and 3 list them
abbrev pub four_blocks : List Entry
four_blocks =
    bare 17 273 104 10 106 8 (Addresses 0x0123456789AB 258)
    ∷ bare 18 274 114 10 116 8 (Addresses 0xFFFFFFFFFFFF 65535)
    ∷ bare 19 275 124 10 126 8 (Addresses 0x000000000001 0)
    ∷ bare 20 276 134 10 136 8 (Addresses 0x020000000000 10)
    ∷ []

-- an image of one entry, of this code and value, with this check stored
abbrev pub lone : ℕ → List ℕ → ℕ → List ℕ
lone c v check = fboss_of (c ∷ length v ∷ v) check

-- the header and the bytes of entries, with no end
abbrev pub begun : List ℕ → List ℕ
begun s = hex "FB FB 05 FF" ++ s

-- day n of December 2023
abbrev pub day : ℕ → List ℕ
day n = text "202312" ++ digits n

-- day 15 of month n of 2023
abbrev pub month : ℕ → List ℕ
month n = text "2023" ++ digits n ++ text "15"

abbrev pub cases : List Case
cases =
    -- ---- the checks of other bytes
    check16 (hex "80 01 FF 00") 0xE7E7
    ∷ check8 (hex "80 01 FF 00") 0x8D
    -- ---- the header: 3 before the version, the version before byte 3
    ∷ alike 1 [] (refuses 3 0)
    ∷ alike 1 (hex "FB FB 04") (refuses 3 0)
    ∷ alike 1 (hex "FB FB 05") (refuses 3 0)
    ∷ alike 1 (hex "FB FB 04 00") (refuses 4 0)
    ∷ alike 1 (hex "FB FB 05 00") (refuses 3 0)
    ∷ alike 1 (hex "FB FA 05 FF") (refuses 3 0)
    ∷ alike 1 (hex "FA FB 05 FF") (refuses 3 0)
    ∷ sweeps 256 (λ b. checking 1 1 (b ∷ hex "FB 05 FF")) 5 (0xFB ∷ [])
    ∷ sweeps 256 (λ b. checking 1 1 (0xFB ∷ b ∷ hex "05 FF")) 5 (0xFB ∷ [])
    ∷ sweeps 256 (λ b. checking 1 1 (0xFB ∷ 0xFB ∷ b ∷ hex "FF")) 4 (run 0 4 ++ run 6 255)
    ∷ sweeps 256 (λ b. checking 1 1 (0xFB ∷ 0xFB ∷ 0x05 ∷ b ∷ [])) 3 (run 0 254)
    -- ---- frames. 6: codes 0 and 255, and 250 with another length than 2; every other code opens an entry
    ∷ alike 1 (begun (hex "00")) (refuses 6 4)
    ∷ alike 1 (begun (hex "01 00 FF")) (refuses 6 6)
    ∷ alike 1 (begun (hex "FA 01")) (refuses 6 4)
    ∷ alike 1 (begun (hex "FA 03")) (refuses 6 4)
    ∷ sweeps 256 (λ c. checking 1 1 (begun (c ∷ 0 ∷ []))) 6 (0 ∷ 250 ∷ 255 ∷ [])
    ∷ sweeps 256 (λ c. checking 1 2 (begun (c ∷ 0 ∷ []))) 5 (run 1 249 ++ run 251 254)
    ∷ sweeps 256 (λ n. checking 1 1 (begun (250 ∷ n ∷ 0 ∷ 0 ∷ []))) 6 (0 ∷ 1 ∷ run 3 255)
    -- 5: no end; a code, a length byte or a value past the room; an end past the room
    ∷ alike 1 (begun (hex "01")) (refuses 5 4)
    ∷ alike 1 (begun (hex "01 01")) (refuses 5 4)
    ∷ alike 1 (begun (hex "01 01 41")) (refuses 5 7)
    ∷ alike 1 (begun (hex "01 01 41 02 02 41")) (refuses 5 7)
    ∷ alike 1 (begun (hex "01 01 41 02 09 41 00 00")) (refuses 5 7)
    ∷ alike 1 (begun (hex "FA")) (refuses 5 4)
    ∷ alike 1 (begun (hex "FA 02")) (refuses 5 4)
    ∷ alike 1 (begun (hex "FA 02 7D")) (refuses 5 4)
    ∷ alike 1 (begun (hex "01 00 FA 02 7D")) (refuses 5 6)
    -- ---- 10: at the stored check; high byte first; over every byte before code 250; before 7, 8 and 11
    ∷ alike 1 (begun (hex "FA 02 7D E4")) (refuses 11 0)
    ∷ alike 1 (begun (hex "FA 02 7D E5")) (refuses 10 6)
    ∷ alike 1 (begun (hex "FA 02 7C E4")) (refuses 10 6)
    ∷ alike 1 (begun (hex "FA 02 E4 7D")) (refuses 10 6)
    ∷ alike 1 (fboss_of five 0x4826) (Ok 5)
    ∷ checks 1 2 (fboss_of five 0x4827) (refuses 10 21)
    ∷ checks 1 1 (fboss_of five 0x4726) (refuses 10 21)
    ∷ checks 1 2 (fboss_of five 0x2648) (refuses 10 21)
    ∷ checks 1 1 (fboss_of (hex "01 01 7F") 0xCD56) (refuses 7 4)
    ∷ checks 1 2 (fboss_of (hex "01 01 7F") 0x56CD) (refuses 10 9)
    -- nothing after the end is looked at, an entry, an end or another check
    ∷ checks 1 1 (fboss_of five 0x4826 ++ hex "00") (Ok 5)
    ∷ checks 1 2 (fboss_of five 0x4826 ++ hex "00 FF FA 02 00 00") (Ok 5)
    -- ---- 11: each required code missing, one at a time; after 7 and 8
    ∷ checks 1 1 (fboss_of (hex "08 01 05 09 01 00 0A 01 01 0B 01 42") 0xD2C4) (refuses 11 0)
    ∷ checks 1 2 (fboss_of (hex "01 01 41 09 01 00 0A 01 01 0B 01 42") 0x1536) (refuses 11 0)
    ∷ checks 1 1 (fboss_of (hex "01 01 41 08 01 05 0A 01 01 0B 01 42") 0x87B2) (refuses 11 0)
    ∷ checks 1 2 (fboss_of (hex "01 01 41 08 01 05 09 01 00 0B 01 42") 0x3FE6) (refuses 11 0)
    ∷ checks 1 1 (fboss_of (hex "01 01 41 08 01 05 09 01 00 0A 01 01") 0x7071) (refuses 11 0)
    -- the five in another order; a neighbour in the place of one; 8 and 7 come before 11
    ∷ checks 1 2 (fboss_of (hex "0B 01 42 0A 01 01 09 01 00 08 01 05 01 01 41") 0xF0D3) (Ok 5)
    ∷ checks 1 1 (fboss_of (hex "02 01 41 08 01 05 09 01 00 0A 01 01 0B 01 42") 0xAB03) (refuses 11 0)
    ∷ checks 1 2 (fboss_of (hex "01 01 41 07 01 41 09 01 00 0A 01 01 0B 01 42") 0x84EA) (refuses 11 0)
    ∷ checks 1 1 (fboss_of (hex "01 01 41 08 01 05 09 01 00 0A 01 01 0C 01 42") 0xCDB6) (refuses 11 0)
    ∷ checks 1 2 (fboss_of (hex "08 01 05 09 01 00 0A 01 01 0B 01 42 08 01 05") 0x1B51) (refuses 8 16)
    ∷ checks 1 1 (fboss_of (hex "08 01 05 09 00 0A 01 01") 0x965A) (refuses 7 7)
    -- ---- 7 in the reader, of an image with one entry: 11 where the entry breaks no rule, since required ones are missing
    -- text, each byte 20h to 7Eh
    ∷ checks 1 2 (lone 1 (hex "7F") 0xCD56) (refuses 7 4)
    ∷ checks 1 1 (board_with 2 (hex "7F") 0xCA65) (refuses 7 19)
    ∷ checks 1 2 (board_with 2 (hex "7E") 0xDA44) (Ok 6)
    ∷ checks 1 1 (lone 2 (hex "1F") 0xF8A0) (refuses 7 4)
    ∷ checks 1 2 (lone 2 (hex "20") 0x3F1C) (refuses 11 0)
    ∷ checks 1 1 (lone 2 (hex "7E") 0x8427) (refuses 11 0)
    ∷ checks 1 2 (lone 2 (hex "7F") 0x9406) (refuses 7 4)
    ∷ checks 1 1 (lone 2 (hex "41 42 43 1F") 0x6B37) (refuses 7 4)
    ∷ checks 1 2 (lone 2 (hex "FF 41 42 43") 0xC9A4) (refuses 7 4)
    ∷ checks 1 1 (lone 2 [] 0xA5CD) (refuses 11 0)
    ∷ checks 1 2 (lone 6 (hex "7F") 0x48C6) (refuses 7 4)
    ∷ checks 1 1 (lone 16 (hex "7F") 0xB905) (refuses 7 4)
    -- a length of 8, one less and one more
    ∷ checks 1 2 (lone 3 (text "1234567") 0xE636) (refuses 7 4)
    ∷ checks 1 1 (lone 3 (text "1234567 ") 0x17DE) (refuses 11 0)
    ∷ checks 1 2 (lone 3 (text "123456789") 0xFE33) (refuses 7 4)
    ∷ checks 1 1 (lone 3 (hex "31 32 33 34 35 36 37 7F") 0xBCC4) (refuses 7 4)
    -- a number has one byte
    ∷ checks 1 2 (lone 8 [] 0x4A06) (refuses 7 4)
    ∷ checks 1 1 (lone 8 (hex "05") 0x8C1A) (refuses 11 0)
    ∷ checks 1 2 (lone 8 (hex "05 05") 0x43F1) (refuses 7 4)
    -- address blocks have eight bytes; edition 1 does not name them
    ∷ checks 1 2 (lone 17 (hex "00 00 00 00 00 00 00") 0xF579) (refuses 7 4)
    ∷ checks 1 3 (lone 17 (hex "00 00 00 00 00 00 00") 0xF579) (refuses 7 4)
    ∷ checks 1 1 (lone 17 (hex "00 00 00 00 00 00 00") 0xF579) (refuses 11 0)
    ∷ checks 1 2 (lone 17 (hex "00 00 00 00 00 00 00 00") 0x5EEE) (refuses 11 0)
    ∷ checks 1 2 (lone 17 (hex "00 00 00 00 00 00 00 00 00") 0x3A7E) (refuses 7 4)
    ∷ checks 1 2 (lone 20 (hex "00 00 00 00 00 00 00") 0x82B5) (refuses 7 4)
    ∷ checks 1 1 (lone 20 (hex "00 00 00 00 00 00 00") 0x82B5) (refuses 11 0)
    ∷ checks 1 2 (lone 20 (hex "00 00 00 00 00 00 00 00 00") 0xB370) (refuses 7 4)
    -- 21 is unnamed: any value
    ∷ checks 1 1 (lone 21 (hex "7F") 0x52F5) (refuses 11 0)
    -- the date: a day of the Gregorian calendar, back to year 1
    ∷ checks 1 2 (lone 13 (text "20231231") 0x7C2D) (refuses 11 0)
    ∷ alike 1 (lone 13 (text "15821010") 0xF98F) (refuses 11 0)
    ∷ alike 1 (lone 13 (text "20000229") 0xDD32) (refuses 11 0)
    ∷ alike 1 (lone 13 (text "00040229") 0xDB92) (refuses 11 0)
    ∷ alike 1 (lone 13 (text "00010101") 0x46FF) (refuses 11 0)
    ∷ alike 1 (lone 13 (text "99991231") 0x0442) (refuses 11 0)
    ∷ alike 1 (lone 13 (text "00000101") 0xECAE) (refuses 7 4)
    ∷ alike 1 (lone 13 (text "20230229") 0xB8A0) (refuses 7 4)
    ∷ alike 1 (lone 13 (text "19000229") 0x3E8B) (refuses 7 4)
    ∷ alike 1 (lone 13 (text "20230231") 0x0A99) (refuses 7 4)
    ∷ checks 1 1 (lone 13 (text "20230001") 0x31AA) (refuses 7 4)
    ∷ checks 1 2 (lone 13 (text "20231300") 0x0E6F) (refuses 7 4)
    ∷ checks 1 1 (lone 13 (text "20231032") 0x222E) (refuses 7 4)
    ∷ checks 1 1 (lone 13 (text "20230100") 0x16BB) (refuses 7 4)
    ∷ checks 1 1 (lone 13 (text "2023123") 0x6D7F) (refuses 7 4)
    ∷ checks 1 2 (lone 13 (text "202312311") 0xDB2C) (refuses 7 4)
    ∷ checks 1 1 (lone 13 (text "2023123a") 0x26D8) (refuses 7 4)
    ∷ checks 1 2 (lone 13 (text "/0231231") 0x17FD) (refuses 7 4)
    ∷ checks 1 1 (lone 13 (text "202:1231") 0xD451) (refuses 7 4)
    -- ---- 8: at the second; an unnamed code may repeat
    ∷ checks 1 1 (board_with 1 (text "A") 0x44A8) (refuses 8 19)
    ∷ checks 1 2 (board_with 11 (text "C") 0xA32B) (refuses 8 19)
    ∷ checks 1 1 (fboss_of (five ++ hex "02 01 41 63 01 00 02 01 42") 0x67C2) (refuses 8 25)
    ∷ checks 1 2 (fboss_of (five ++ hex "02 01 41 63 01 00 02 01 7F") 0x803C) (refuses 7 25)
    ∷ checks 1 1 (fboss_of (five ++ hex "63 00 63 00") 0x434E) (Ok 7)
    ∷ checks 1 1 (fboss_of (five ++ hex "12 08 00 00 00 00 00 00 00 00 12 08 00 00 00 00 00 00 00 00") 0x7786) (Ok 7)
    ∷ checks 1 3 (fboss_of (five ++ hex "12 08 00 00 00 00 00 00 00 00 12 08 00 00 00 00 00 00 00 00") 0x7786) (refuses 8 29)
    ∷ checks 1 2 (fboss_of (five ++ hex "12 08 00 00 00 00 00 00 00 00 12 08 00 00 00 00 00 00 00 00") 0x7786) (refuses 8 29)
    -- ---- the same rules, by writes of one field: the number 11 says that no rule is broken
    -- the bytes of text; the codes that take one byte below it, of it and above it
    ∷ sweeps 256 (λ b. writing 1 1 1 (b ∷ [])) 11 (run 0x20 0x7E)
    ∷ sweeps 256 (λ b. writing 1 1 3 (b ∷ text "2345678")) 11 (run 0x20 0x7E)
    ∷ sweeps 256 (λ b. writing 1 1 5 (text "12345678901" ++ (b ∷ []))) 11 (run 0x20 0x7E)
    ∷ sweeps 24 (λ c. writing 1 2 c (hex "1F")) 11 (8 ∷ 9 ∷ 10 ∷ [])
    ∷ sweeps 24 (λ c. writing 1 2 c (hex "20")) 11 (1 ∷ 2 ∷ 6 ∷ 7 ∷ 8 ∷ 9 ∷ 10 ∷ 11 ∷ 12 ∷ 14 ∷ 15 ∷ 16 ∷ [])
    ∷ sweeps 24 (λ c. writing 1 2 c (hex "7E")) 11 (1 ∷ 2 ∷ 6 ∷ 7 ∷ 8 ∷ 9 ∷ 10 ∷ 11 ∷ 12 ∷ 14 ∷ 15 ∷ 16 ∷ [])
    ∷ sweeps 24 (λ c. writing 1 2 c (hex "7F")) 11 (8 ∷ 9 ∷ 10 ∷ [])
    ∷ sweeps 24 (λ c. writing 1 2 c (hex "7F")) 14 (0 ∷ run 21 23)
    -- the codes that take no byte, eight bytes that are no text, eight of text, a date, and twelve
    ∷ sweeps 24 (λ c. writing 1 2 c []) 11 (1 ∷ 2 ∷ 6 ∷ 7 ∷ 11 ∷ 12 ∷ 14 ∷ 15 ∷ 16 ∷ [])
    ∷ sweeps 24 (λ c. writing 1 2 c (replicate 8 0x00)) 11 (run 17 20)
    ∷ sweeps 24 (λ c. writing 1 2 c (replicate 8 0x41)) 11 (1 ∷ 2 ∷ 3 ∷ 6 ∷ 7 ∷ 11 ∷ 12 ∷ 14 ∷ 15 ∷ 16 ∷ run 17 20)
    ∷ sweeps 24 (λ c. writing 1 2 c (text "20231231")) 11 (1 ∷ 2 ∷ 3 ∷ 6 ∷ 7 ∷ run 11 20)
    ∷ sweeps 24 (λ c. writing 1 2 c (replicate 12 0x41)) 11 (1 ∷ 2 ∷ 4 ∷ 5 ∷ 6 ∷ 7 ∷ 11 ∷ 12 ∷ 14 ∷ 15 ∷ 16 ∷ [])
    -- the lengths that a code takes
    ∷ sweeps 20 (λ n. writing 1 1 3 (replicate n 0x41)) 11 (8 ∷ [])
    ∷ sweeps 20 (λ n. writing 1 1 4 (replicate n 0x41)) 11 (12 ∷ [])
    ∷ sweeps 20 (λ n. writing 1 1 5 (replicate n 0x41)) 11 (12 ∷ [])
    ∷ sweeps 20 (λ n. writing 1 1 8 (replicate n 0x41)) 11 (1 ∷ [])
    ∷ sweeps 20 (λ n. writing 1 1 9 (replicate n 0x41)) 11 (1 ∷ [])
    ∷ sweeps 20 (λ n. writing 1 1 10 (replicate n 0x41)) 11 (1 ∷ [])
    ∷ sweeps 20 (λ n. writing 1 1 11 (replicate n 0x41)) 11 (run 0 19)
    ∷ sweeps 20 (λ n. writing 1 2 17 (replicate n 0x41)) 11 (8 ∷ [])
    ∷ sweeps 20 (λ n. writing 1 2 18 (replicate n 0x41)) 11 (8 ∷ [])
    ∷ sweeps 20 (λ n. writing 1 2 19 (replicate n 0x41)) 11 (8 ∷ [])
    ∷ sweeps 20 (λ n. writing 1 2 20 (replicate n 0x41)) 11 (8 ∷ [])
    -- the years, months and days of a date; each of its bytes
    ∷ sweeps 100 (λ n. writing 1 1 13 (text "00" ++ digits n ++ text "0101")) 11 (run 1 99)
    ∷ sweeps 100 (λ n. writing 1 1 13 (digits n ++ text "000101")) 11 (run 1 99)
    ∷ sweeps 100 (λ n. writing 1 1 13 (month n)) 11 (run 1 12)
    ∷ sweeps 100 (λ n. writing 1 1 13 (day n)) 11 (run 1 31)
    ∷ sweeps 100 (λ n. writing 1 1 13 (text "202304" ++ digits n)) 11 (run 1 30)
    ∷ sweeps 100 (λ n. writing 1 1 13 (text "202302" ++ digits n)) 11 (run 1 28)
    ∷ sweeps 100 (λ n. writing 1 1 13 (text "202402" ++ digits n)) 11 (run 1 29)
    ∷ sweeps 100 (λ n. writing 1 1 13 (digits n ++ text "000229")) 11 (fourths 24 4)
    ∷ sweeps 100 (λ n. writing 1 1 13 (text "19" ++ digits n ++ text "0229")) 11 (fourths 24 4)
    ∷ sweeps 100 (λ n. writing 1 1 13 (text "20" ++ digits n ++ text "0229")) 11 (fourths 25 0)
    ∷ sweeps 256 (λ b. writing 1 1 13 (b ∷ text "0231231")) 11 (run 0x30 0x39)
    ∷ sweeps 64 (λ b. writing 1 1 13 (text "2" ++ (b ∷ text "231231"))) 11 (run 0x30 0x39)
    ∷ sweeps 64 (λ b. writing 1 1 13 (text "20" ++ (b ∷ text "31231"))) 11 (run 0x30 0x39)
    ∷ sweeps 64 (λ b. writing 1 1 13 (text "202" ++ (b ∷ text "1231"))) 11 (run 0x30 0x39)
    ∷ sweeps 64 (λ b. writing 1 1 13 (text "2023" ++ (b ∷ text "231"))) 11 (0x31 ∷ [])
    ∷ sweeps 64 (λ b. writing 1 1 13 (text "20230" ++ (b ∷ text "31"))) 11 (0x31 ∷ 0x33 ∷ 0x35 ∷ 0x37 ∷ 0x38 ∷ [])
    ∷ sweeps 64 (λ b. writing 1 1 13 (text "202312" ++ (b ∷ text "1"))) 11 (run 0x30 0x33)
    ∷ sweeps 64 (λ b. writing 1 1 13 (text "2023121" ++ (b ∷ []))) 11 (run 0x30 0x39)
    -- the codes that each edition names: 13, and 14 for any other
    ∷ sweeps 300 (λ c. naming 1 1 c) 13 (run 1 16)
    ∷ sweeps 300 (λ c. naming 1 2 c) 13 (run 1 20)
    ∷ sweeps 300 (λ c. naming 1 3 c) 13 (run 1 20)
    ∷ sweeps 300 (λ c. naming 1 4 c) 13 (run 1 20)
    ∷ sweeps 30 (λ c. naming 1 1 c) 14 (0 ∷ run 17 29)
    -- ---- the records of every code, in every edition
    ∷ lists 1 1 every_code (first_sixteen ++ four_unnamed)
    ∷ lists 1 2 every_code (first_sixteen ++ four_blocks)
    ∷ lists 1 3 every_code (first_sixteen ++ four_blocks)
    ∷ lists 1 4 every_code (first_sixteen ++ four_blocks)
    ∷ finds 1 2 every_code 19 (Ok (bare 20 276 134 10 136 8 (Addresses 0x020000000000 10)))
    -- year, month and day of a date
    ∷ finds 1 1 (board_with 13 (text "00040229") 0x9275) 5 (Ok (bare 13 269 19 10 21 8 (Dated (date 4 2 29))))
    ∷ finds 1 3 (board_with 13 (text "20231110") 0x1AD9) 5 (Ok (bare 13 269 19 10 21 8 (Dated (date 2023 11 10))))
    -- codes that no edition names, with any value
    ∷ lists 1 2 (fboss_of (five ++ hex "15 00 F9 02 00 FF FB 01 FA FE 01 02") 0x3DB3)
    (bare 1 257 4 3 6 1 Text ∷ bare 8 264 7 3 9 1 (Number 5) ∷ bare 9 265 10 3 12 1 (Number 0) ∷ bare 10 266 13 3 15 1 (Number 1) ∷ bare 11 267 16 3 18 1 Text
    ∷ bare 21 0 19 2 21 0 Plain ∷ bare 249 0 21 4 23 2 Plain ∷ bare 251 0 25 3 27 1 Plain ∷ bare 254 0 28 3 30 1 Plain ∷ [])
    -- entry, value and step: the first, in the middle, the last and past it
    ∷ checks 1 2 with_block (Ok 6)
    ∷ finds 1 1 with_block 0 (Ok (bare 1 257 4 3 6 1 Text))
    ∷ finds 1 1 with_block 3 (Ok (bare 10 266 13 3 15 1 (Number 1)))
    ∷ finds 1 1 with_block 5 (Ok (bare 17 0 19 10 21 8 Plain))
    ∷ finds 1 2 with_block 5 (Ok (bare 17 273 19 10 21 8 (Addresses 0x020000000001 8)))
    ∷ finds 1 3 with_block 5 (Ok (bare 17 273 19 10 21 8 (Addresses 0x020000000001 8)))
    ∷ finds 1 1 with_block 6 (misses 13 0)
    ∷ finds 1 2 with_block 6 (misses 13 0)
    ∷ finds 1 2 with_block 4294967296 (misses 13 0)
    ∷ finds 1 2 (begun (hex "01 00 FF")) 0 (misses 6 6)
    ∷ values 1 1 with_block 0 (Ok (part_at 6 1)) (text "A")
    ∷ values 1 2 with_block 3 (Ok (part_at 15 1)) (hex "01")
    ∷ values 1 1 with_block 5 (Ok (part_at 21 8)) (hex "02 00 00 00 00 01 00 08")
    ∷ values 1 2 with_block 5 (Ok (part_at 21 8)) (hex "02 00 00 00 00 01 00 08")
    ∷ values 1 1 with_block 6 (nowhere 13 0) []
    ∷ values 1 2 (begun (hex "01 00 FF")) 0 (nowhere 6 6) []
    ∷ steps 1 1 0 with_block (Ok (bare 1 257 4 3 6 1 Text)) 1
    ∷ steps 1 2 3 with_block (Ok (bare 10 266 13 3 15 1 (Number 1))) 4
    ∷ steps 1 1 5 with_block (Ok (bare 17 0 19 10 21 8 Plain)) 6
    ∷ steps 1 2 5 with_block (Ok (bare 17 273 19 10 21 8 (Addresses 0x020000000001 8))) 6
    ∷ steps 1 2 6 with_block (misses 13 0) 6
    ∷ steps 1 2 7 with_block (misses 13 0) 7
    ∷ steps 1 2 3 (begun (hex "01 00 FF")) (misses 6 6) 3
    ∷ []

pub every-case : map given cases ≡ map wanted cases
unfolding given
every-case = refl
