-- Worked cases of Tiny images, as one statement over a list (01, "Tiny version 2 (004)").
-- Assumes nothing.
use Prim.Native.Nat.{ℕ, ◌*◌, ◌/◌, ◌%◌}
use mathlib.Core.Path.{◌≡◌, refl}
use mathlib.Core.List.{List, [], ◌∷◌, ◌++◌, map}
use lib.ListN.{replicate}
use Rattle.std.specs.Prelude.{Ok}
use Rattle.layout.specs.declared.Reading.TheVariants.{Plain, Addresses, Numbered, Tests, Identified, Batched}
use Rattle.layout.specs.declared.Entry.{Entry}
use Rattle.layout.specs.Bytes.{part_at, string_number}
use Rattle.layout.proofs.Cases.{hex, run, named, bare, no_tags, refuses, misses, nowhere, checking, writing, naming}
use Rattle.layout.proofs.Cases.{Case, checks, alike, sweeps, lists, entries, finds, values, strings, steps, given, wanted}

-- every named tag, one that no edition names, and a pool of two strings and an unfinished tail
abbrev pub tags : List ℕ
tags =
    hex "56 02 38 10 02 11 3B 60 02 00 00 00 01 FF 61 00 01 02 03 04 05 62 01 00 80 63 06 07"
    ++ hex "80 00 01 02 03 04 05 34 12 81 01 01 63 00 00 00 0F 27 25 07 08 01 04 41 C2 C3 44 E7"

-- its first five records, alike in every edition
abbrev pub first_five : List Entry
first_five =
    bare 0x10 784 3 2 4 1 (Numbered (string_number 2))
    ∷ bare 0x11 785 5 2 6 1 (Tests 0x3B 3)
    ∷ bare 0x60 864 7 7 8 6 (Addresses 0x0200000001FF 1)
    ∷ bare 0x61 865 14 7 15 6 (Identified (named 0 1 2 3 4 5))
    ∷ bare 0x62 866 21 7 22 6 (Identified (named 1 0 128 99 6 7))
    ∷ []

-- its last two, alike in every edition
abbrev pub last_two : List Entry
last_two = bare 0x25 0 46 3 47 2 Plain ∷ bare 0x01 769 49 6 51 4 Plain ∷ []

-- a number below 65,536 as two bytes, low byte first, after six zeros: the value of an identity with that batch number
abbrev pub batched : ℕ → List ℕ
batched n = hex "00 00 00 00 00 00" ++ (n % 256 ∷ n / 256 ∷ [])

abbrev pub cases : List Case
cases =
    -- ---- the header: 3 before the version, the version before L
    alike 3 [] (refuses 3 0)
    ∷ alike 3 (hex "56 02") (refuses 3 0)
    ∷ alike 3 (hex "57 03 04") (refuses 3 0)
    ∷ alike 3 (hex "56 03 03") (refuses 4 0)
    ∷ alike 3 (hex "56 01 04") (refuses 4 0)
    ∷ sweeps 256 (λ b. checking 3 1 (b ∷ hex "02 00")) 5 (0x56 ∷ [])
    ∷ sweeps 256 (λ b. checking 3 1 (0x56 ∷ b ∷ hex "00")) 5 (0x02 ∷ [])
    ∷ sweeps 256 (λ b. checking 3 1 (0x56 ∷ b ∷ hex "00")) 4 (0 ∷ 1 ∷ run 3 255)
    -- L: at least 4, at most the image. Six bytes: an L of 4 has the check at 3, of 5 an entry at 3 that is 00h, of 6 an entry at 3
    ∷ alike 3 (hex "56 02 00 6F") (refuses 5 2)
    ∷ alike 3 (hex "56 02 03 6F") (refuses 5 2)
    ∷ alike 3 (hex "56 02 04") (refuses 5 2)
    ∷ alike 3 (hex "56 02 05 6F") (refuses 5 2)
    ∷ sweeps 256 (λ n. checking 3 1 (0x56 ∷ 0x02 ∷ n ∷ hex "00 00 00")) 5 (run 0 3 ++ run 7 255)
    ∷ sweeps 10 (λ n. checking 3 1 (0x56 ∷ 0x02 ∷ n ∷ hex "00 00 00")) 10 (4 ∷ [])
    ∷ sweeps 10 (λ n. checking 3 1 (0x56 ∷ 0x02 ∷ n ∷ hex "00 00 00")) 6 (5 ∷ 6 ∷ [])
    -- the longest: L 255, a pool of 249 bytes; of 250 there is none in an image of 255 bytes
    ∷ finds 3 1 (hex "56 02 FF 01 F9" ++ replicate 249 0xC1 ++ hex "13") 0 (Ok (bare 0x01 769 3 251 5 249 Plain))
    ∷ alike 3 (hex "56 02 FF 01 FA" ++ replicate 250 0xC1) (refuses 5 3)
    ∷ alike 3 (hex "56 02 FF" ++ replicate 251 0x00) (refuses 5 2)
    -- ---- 10: at L - 1; bytes from L on are not looked at; after the frames, before 7 and 8
    ∷ alike 3 (hex "56 02 04 6F 00 00") (Ok 0)
    ∷ alike 3 (hex "56 02 04 00 6F 6F") (refuses 10 3)
    ∷ alike 3 (hex "56 02 06 10 00 B7") (Ok 1)
    ∷ alike 3 (hex "56 02 06 10 00 B6") (refuses 10 5)
    ∷ sweeps 256 (λ b. checking 3 1 (hex "56 02 04" ++ (b ∷ []))) 0 (0x6F ∷ [])
    ∷ alike 3 (hex "56 02 0B 61 00 00 64 00 00 00 CB") (refuses 10 10)
    ∷ alike 3 (hex "56 02 08 10 00 10 00 20") (refuses 10 7)
    -- ---- frames. 6: tag 00h. Every other tag opens an entry: of one to fifteen bytes, or with a length byte
    ∷ alike 3 (hex "56 02 05 00 00") (refuses 6 3)
    ∷ alike 3 (hex "56 02 07 10 00 00 00") (refuses 6 5)
    ∷ sweeps 256 (λ c. checking 3 1 (hex "56 02 05" ++ (c ∷ 0 ∷ []))) 6 (0x00 ∷ [])
    ∷ sweeps 256 (λ c. checking 3 2 (hex "56 02 06" ++ (c ∷ 0 ∷ 0 ∷ []))) 10 (run 0x01 0x1F)
    ∷ sweeps 256 (λ c. checking 3 2 (hex "56 02 07" ++ (c ∷ 1 ∷ 0 ∷ 0 ∷ []))) 10 (run 0x01 0x0F ++ run 0x20 0x2F)
    ∷ sweeps 256 (λ c. checking 3 2 (hex "56 02 13" ++ (c ∷ replicate 14 0xF0) ++ hex "00")) 10 (run 0xE0 0xEF)
    ∷ sweeps 256 (λ c. checking 3 2 (hex "56 02 14" ++ (c ∷ replicate 15 0xF0) ++ hex "00")) 10 (run 0xF0 0xFF)
    -- 5: a length byte or a value past the room, which ends before the check byte
    ∷ alike 3 (hex "56 02 05 20 00") (refuses 5 3)
    ∷ alike 3 (hex "56 02 05 01 00") (refuses 5 3)
    ∷ alike 3 (hex "56 02 05 10 00 00 00") (refuses 5 3)
    ∷ alike 3 (hex "56 02 06 01 01 41 00") (refuses 5 3)
    ∷ alike 3 (hex "56 02 08 10 00 61 00 00") (refuses 5 5)
    -- ---- 9: an entry after the pool, before 6 and before 5; id 1 with length 6 is no pool, and neither is 11h
    ∷ alike 3 (hex "56 02 07 01 00 00 00") (refuses 9 5)
    ∷ alike 3 (hex "56 02 08 01 01 C1 F0 00") (refuses 9 6)
    ∷ alike 3 (hex "56 02 08 01 00 01 00 00") (refuses 9 5)
    ∷ alike 3 (hex "56 02 0E 61 00 00 00 00 00 00 01 01 C1 CF") (Ok 2)
    ∷ alike 3 (hex "56 02 0D 61 00 00 00 00 00 00 10 01 A1") (Ok 2)
    ∷ alike 3 (hex "56 02 0B 11 00 10 01 02 01 C1 5E") (Ok 3)
    -- ---- 7: major 0 to 99 or 128 to 153, minor 0 to 99
    ∷ alike 3 (hex "56 02 0B 61 00 00 63 63 00 00 D0") (Ok 1)
    ∷ alike 3 (hex "56 02 0B 61 FF FF 00 00 FF FF 75") (Ok 1)
    ∷ alike 3 (hex "56 02 0B 61 00 00 64 00 00 00 CA") (refuses 7 3)
    ∷ alike 3 (hex "56 02 0B 61 00 00 7F 00 00 00 27") (refuses 7 3)
    ∷ alike 3 (hex "56 02 0B 61 00 00 80 00 00 00 F6") (Ok 1)
    ∷ alike 3 (hex "56 02 0B 62 00 00 99 00 00 00 51") (Ok 1)
    ∷ alike 3 (hex "56 02 0B 62 00 00 9A 00 00 00 6B") (refuses 7 3)
    ∷ alike 3 (hex "56 02 0B 61 00 00 00 64 00 00 A9") (refuses 7 3)
    ∷ alike 3 (hex "56 02 0B 62 00 00 99 64 00 00 3F") (refuses 7 3)
    ∷ alike 3 (hex "56 02 0D 10 00 62 00 00 9A 00 00 00 8D") (refuses 7 5)
    -- 80h and 81h, which edition 1 does not name: the same, and a batch number of at most 9999, low byte first
    ∷ alike 3 (hex "56 02 0D 80 00 00 00 00 00 00 0F 27 9D") (Ok 1)
    ∷ checks 3 2 (hex "56 02 0D 80 00 00 00 00 00 00 10 27 09") (refuses 7 3)
    ∷ checks 3 3 (hex "56 02 0D 80 00 00 00 00 00 00 10 27 09") (refuses 7 3)
    ∷ checks 3 1 (hex "56 02 0D 80 00 00 00 00 00 00 10 27 09") (Ok 1)
    ∷ checks 3 2 (hex "56 02 0D 81 00 00 00 00 00 00 0F 27 E4") (Ok 1)
    ∷ checks 3 2 (hex "56 02 0D 81 00 00 00 00 00 00 10 27 70") (refuses 7 3)
    ∷ checks 3 2 (hex "56 02 0D 81 00 00 00 00 00 00 00 28 0A") (refuses 7 3)
    ∷ checks 3 2 (hex "56 02 0D 81 00 00 00 00 00 00 FF 26 F7") (Ok 1)
    ∷ checks 3 2 (hex "56 02 0D 80 00 00 64 00 00 00 00 00 42") (refuses 7 3)
    ∷ checks 3 2 (hex "56 02 0D 81 00 00 00 64 00 00 00 00 F1") (refuses 7 3)
    ∷ checks 3 1 (hex "56 02 0D 81 00 00 00 64 00 00 00 00 F1") (Ok 1)
    -- other tags have no rule: 63h, 82h and 7Fh, and any content of a pool
    ∷ alike 3 (hex "56 02 14 63 00 00 64 64 00 00 82 00 00 64 64 00 00 FF FF 4C") (Ok 2)
    ∷ alike 3 (hex "56 02 13 60 64 64 64 64 64 64 7F 64 64 64 64 64 64 64 35") (Ok 2)
    ∷ alike 3 (hex "56 02 06 01 00 F5") (Ok 1)
    ∷ alike 3 (hex "56 02 09 01 03 00 7F FF 94") (Ok 1)
    -- the same by writes of one field, where 12 says that no rule is broken: each byte of an identity
    ∷ sweeps 160 (λ b. writing 3 1 0x61 (0 ∷ 0 ∷ b ∷ hex "00 00 00")) 12 (run 0 99 ++ run 128 153)
    ∷ sweeps 160 (λ b. writing 3 2 0x62 (0 ∷ 0 ∷ b ∷ hex "00 00 00")) 12 (run 0 99 ++ run 128 153)
    ∷ sweeps 160 (λ b. writing 3 2 0x80 (0 ∷ 0 ∷ b ∷ hex "00 00 00 00 00")) 12 (run 0 99 ++ run 128 153)
    ∷ sweeps 160 (λ b. writing 3 2 0x81 (0 ∷ 0 ∷ b ∷ hex "00 00 00 00 00")) 12 (run 0 99 ++ run 128 153)
    ∷ sweeps 110 (λ b. writing 3 1 0x61 (0 ∷ 0 ∷ 0 ∷ b ∷ hex "00 00")) 12 (run 0 99)
    ∷ sweeps 110 (λ b. writing 3 1 0x62 (0 ∷ 0 ∷ 0 ∷ b ∷ hex "00 00")) 12 (run 0 99)
    ∷ sweeps 110 (λ b. writing 3 2 0x80 (0 ∷ 0 ∷ 0 ∷ b ∷ hex "00 00 00 00")) 12 (run 0 99)
    ∷ sweeps 110 (λ b. writing 3 2 0x81 (0 ∷ 0 ∷ 0 ∷ b ∷ hex "00 00 00 00")) 12 (run 0 99)
    ∷ sweeps 256 (λ b. writing 3 2 0x80 (b ∷ b ∷ 0 ∷ 0 ∷ b ∷ b ∷ b ∷ hex "00")) 12 (run 0 255)
    ∷ sweeps 50 (λ b. writing 3 2 0x80 (hex "00 00 00 00 00 00 0F" ++ (b ∷ []))) 12 (run 0 0x27)
    ∷ sweeps 50 (λ b. writing 3 2 0x81 (hex "00 00 00 00 00 00 10" ++ (b ∷ []))) 12 (run 0 0x26)
    ∷ sweeps 30 (λ b. writing 3 2 0x81 (hex "00 00 00 00 00 00" ++ (b ∷ 0x27 ∷ []))) 12 (run 0 0x0F)
    ∷ sweeps 50 (λ b. writing 3 2 0x80 (batched (b * 256))) 12 (run 0 39)
    -- the lengths that a tag takes
    ∷ sweeps 20 (λ n. writing 3 1 0x10 (replicate n 0)) 12 (1 ∷ [])
    ∷ sweeps 20 (λ n. writing 3 1 0x11 (replicate n 0)) 12 (1 ∷ [])
    ∷ sweeps 20 (λ n. writing 3 1 0x60 (replicate n 0)) 12 (6 ∷ [])
    ∷ sweeps 20 (λ n. writing 3 1 0x61 (replicate n 0)) 12 (6 ∷ [])
    ∷ sweeps 20 (λ n. writing 3 1 0x62 (replicate n 0)) 12 (6 ∷ [])
    ∷ sweeps 20 (λ n. writing 3 2 0x80 (replicate n 0)) 12 (8 ∷ [])
    ∷ sweeps 20 (λ n. writing 3 2 0x81 (replicate n 0)) 12 (8 ∷ [])
    ∷ sweeps 20 (λ n. writing 3 1 0x01 (replicate n 0)) 12 (run 0 19)
    -- ---- 8: at the second; an unnamed tag may repeat
    ∷ alike 3 (hex "56 02 08 10 00 10 01 26") (refuses 8 5)
    ∷ alike 3 (hex "56 02 0A 10 00 11 00 10 01 44") (refuses 8 7)
    ∷ alike 3 (hex "56 02 08 12 00 12 01 20") (Ok 2)
    ∷ checks 3 1 (hex "56 02 16 80 00 00 00 00 00 00 00 00 80 00 00 00 00 00 00 00 00 DB") (Ok 2)
    ∷ checks 3 2 (hex "56 02 16 80 00 00 00 00 00 00 00 00 80 00 00 00 00 00 00 00 00 DB") (refuses 8 12)
    ∷ checks 3 3 (hex "56 02 16 80 00 00 00 00 00 00 00 00 80 00 00 00 00 00 00 00 00 DB") (refuses 8 12)
    ∷ checks 3 2 (hex "56 02 16 80 00 00 00 00 00 00 00 00 81 00 00 00 00 00 00 00 00 A2") (Ok 2)
    -- 7 before 8
    ∷ alike 3 (hex "56 02 12 61 00 00 00 00 00 00 61 00 00 00 64 00 00 EE") (refuses 7 10)
    -- ---- the tags that each edition names: 13, and 14 for any other
    ∷ sweeps 300 (λ c. naming 3 1 c) 13 (0x01 ∷ 0x10 ∷ 0x11 ∷ 0x60 ∷ 0x61 ∷ 0x62 ∷ [])
    ∷ sweeps 300 (λ c. naming 3 2 c) 13 (0x01 ∷ 0x10 ∷ 0x11 ∷ 0x60 ∷ 0x61 ∷ 0x62 ∷ 0x80 ∷ 0x81 ∷ [])
    ∷ sweeps 300 (λ c. naming 3 3 c) 13 (0x01 ∷ 0x10 ∷ 0x11 ∷ 0x60 ∷ 0x61 ∷ 0x62 ∷ 0x80 ∷ 0x81 ∷ [])
    ∷ sweeps 300 (λ c. naming 3 4 c) 13 (0x01 ∷ 0x10 ∷ 0x11 ∷ 0x60 ∷ 0x61 ∷ 0x62 ∷ 0x80 ∷ 0x81 ∷ [])
    ∷ sweeps 140 (λ c. naming 3 1 c) 14 (0x00 ∷ run 0x02 0x0F ++ run 0x12 0x5F ++ run 0x63 139)
    -- ---- the records of every tag, in every edition
    ∷ lists 3 1 tags (first_five ++ (bare 0x80 0 28 9 29 8 Plain ∷ bare 0x81 0 37 9 38 8 Plain ∷ last_two))
    ∷ lists 3 2 tags
    (first_five ++ (bare 0x80 896 28 9 29 8 (Batched (named 0 1 2 3 4 5) 4660) ∷ bare 0x81 897 37 9 38 8 (Batched (named 1 1 99 0 0 0) 9999) ∷ last_two))
    ∷ lists 3 3 tags
    (first_five ++ (bare 0x80 896 28 9 29 8 (Batched (named 0 1 2 3 4 5) 4660) ∷ bare 0x81 897 37 9 38 8 (Batched (named 1 1 99 0 0 0) 9999) ∷ last_two))
    ∷ lists 3 4 tags
    (first_five ++ (bare 0x80 896 28 9 29 8 (Batched (named 0 1 2 3 4 5) 4660) ∷ bare 0x81 897 37 9 38 8 (Batched (named 1 1 99 0 0 0) 9999) ∷ last_two))
    ∷ entries 3 1 tags (first_five ++ (bare 0x80 0 28 9 29 8 Plain ∷ bare 0x81 0 37 9 38 8 Plain ∷ last_two))
    -- tags on both sides of the named ones: kind 0
    ∷ lists 3 2 (hex "56 02 19 02 01 09 0F 01 09 12 09 5F 09 09 09 09 09 63 09 09 09 09 09 09 0B")
    (bare 0x02 0 3 3 5 1 Plain ∷ bare 0x0F 0 6 3 8 1 Plain ∷ bare 0x12 0 9 2 10 1 Plain ∷ bare 0x5F 0 11 6 12 5 Plain ∷ bare 0x63 0 17 7 18 6 Plain ∷ [])
    ∷ lists 3 2 (hex "56 02 15 7F 09 09 09 09 09 09 09 82 09 09 09 09 09 09 09 09 86") (bare 0x7F 0 3 8 4 7 Plain ∷ bare 0x82 0 11 9 12 8 Plain ∷ [])
    -- the tests passed: each of the low four bits, each of the high four, all and none
    ∷ finds 3 1 (hex "56 02 06 11 00 A2") 0 (Ok (bare 0x11 785 3 2 4 1 (Tests 0x00 0)))
    ∷ finds 3 1 (hex "56 02 06 11 01 A5") 0 (Ok (bare 0x11 785 3 2 4 1 (Tests 0x01 1)))
    ∷ finds 3 2 (hex "56 02 06 11 02 AC") 0 (Ok (bare 0x11 785 3 2 4 1 (Tests 0x02 1)))
    ∷ finds 3 1 (hex "56 02 06 11 04 BE") 0 (Ok (bare 0x11 785 3 2 4 1 (Tests 0x04 1)))
    ∷ finds 3 2 (hex "56 02 06 11 08 9A") 0 (Ok (bare 0x11 785 3 2 4 1 (Tests 0x08 1)))
    ∷ finds 3 1 (hex "56 02 06 11 10 D2") 0 (Ok (bare 0x11 785 3 2 4 1 (Tests 0x10 0)))
    ∷ finds 3 2 (hex "56 02 06 11 20 42") 0 (Ok (bare 0x11 785 3 2 4 1 (Tests 0x20 0)))
    ∷ finds 3 1 (hex "56 02 06 11 40 65") 0 (Ok (bare 0x11 785 3 2 4 1 (Tests 0x40 0)))
    ∷ finds 3 2 (hex "56 02 06 11 80 2B") 0 (Ok (bare 0x11 785 3 2 4 1 (Tests 0x80 0)))
    ∷ finds 3 1 (hex "56 02 06 11 F0 7C") 0 (Ok (bare 0x11 785 3 2 4 1 (Tests 0xF0 0)))
    ∷ finds 3 2 (hex "56 02 06 11 0F 8F") 0 (Ok (bare 0x11 785 3 2 4 1 (Tests 0x0F 4)))
    ∷ finds 3 1 (hex "56 02 06 11 FF 51") 0 (Ok (bare 0x11 785 3 2 4 1 (Tests 0xFF 4)))
    ∷ finds 3 2 (hex "56 02 06 11 05 B9") 0 (Ok (bare 0x11 785 3 2 4 1 (Tests 0x05 2)))
    ∷ finds 3 1 (hex "56 02 06 11 0B 93") 0 (Ok (bare 0x11 785 3 2 4 1 (Tests 0x0B 3)))
    -- a string number, an address block with each byte in its place, and an identity with batch
    ∷ finds 3 2 (hex "56 02 06 10 FF 44") 0 (Ok (bare 0x10 784 3 2 4 1 (Numbered (string_number 255))))
    ∷ finds 3 1 (hex "56 02 0B 60 01 23 45 67 89 AB A6") 0 (Ok (bare 0x60 864 3 7 4 6 (Addresses 0x0123456789AB 1)))
    ∷ finds 3 2 (hex "56 02 0D 81 0A 0B 0C 0D 0E 0F 11 12 40") 0 (Ok (bare 0x81 897 3 9 4 8 (Batched (named 10 11 12 13 14 15) 4625)))
    -- entry, value and step: the first, in the middle, the last and past it
    ∷ finds 3 1 tags 0 (Ok (bare 0x10 784 3 2 4 1 (Numbered (string_number 2))))
    ∷ finds 3 1 tags 5 (Ok (bare 0x80 0 28 9 29 8 Plain))
    ∷ finds 3 2 tags 5 (Ok (bare 0x80 896 28 9 29 8 (Batched (named 0 1 2 3 4 5) 4660)))
    ∷ finds 3 2 tags 8 (Ok (bare 0x01 769 49 6 51 4 Plain))
    ∷ finds 3 1 tags 9 (misses 13 0)
    ∷ finds 3 2 no_tags 0 (misses 13 0)
    ∷ values 3 1 tags 0 (Ok (part_at 4 1)) (hex "02")
    ∷ values 3 2 tags 5 (Ok (part_at 29 8)) (hex "00 01 02 03 04 05 34 12")
    ∷ values 3 1 tags 8 (Ok (part_at 51 4)) (hex "41 C2 C3 44")
    ∷ values 3 1 tags 9 (nowhere 13 0) []
    ∷ steps 3 1 0 tags (Ok (bare 0x10 784 3 2 4 1 (Numbered (string_number 2)))) 1
    ∷ steps 3 2 5 tags (Ok (bare 0x80 896 28 9 29 8 (Batched (named 0 1 2 3 4 5) 4660))) 6
    ∷ steps 3 1 8 tags (Ok (bare 0x01 769 49 6 51 4 Plain)) 9
    ∷ steps 3 2 9 tags (misses 13 0) 9
    -- ---- strings; the unfinished tail is none (15)
    ∷ strings 3 1 tags 0 (Ok (part_at 51 2)) (hex "41 C2")
    ∷ strings 3 2 tags 0 (Ok (part_at 51 2)) (hex "41 C2")
    ∷ strings 3 1 tags 1 (Ok (part_at 53 1)) (hex "C3")
    ∷ strings 3 2 tags 1 (Ok (part_at 53 1)) (hex "C3")
    ∷ strings 3 3 tags 1 (Ok (part_at 53 1)) (hex "C3")
    ∷ strings 3 1 tags 2 (nowhere 15 0) []
    ∷ strings 3 2 tags 3 (nowhere 15 0) []
    -- a top bit on: 80h and FFh end a string, 7Fh and 00h do not
    ∷ strings 3 1 (hex "56 02 0C 01 06 7F 00 80 FF 41 FF A9") 0 (Ok (part_at 5 3)) (hex "7F 00 80")
    ∷ strings 3 1 (hex "56 02 0C 01 06 7F 00 80 FF 41 FF A9") 1 (Ok (part_at 8 1)) (hex "FF")
    ∷ strings 3 2 (hex "56 02 0C 01 06 7F 00 80 FF 41 FF A9") 2 (Ok (part_at 9 2)) (hex "41 FF")
    ∷ strings 3 2 (hex "56 02 0C 01 06 7F 00 80 FF 41 FF A9") 3 (nowhere 15 0) []
    -- 15: no pool, an empty pool, only a tail; 02h is no pool
    ∷ strings 3 1 no_tags 0 (nowhere 15 0) []
    ∷ strings 3 1 (hex "56 02 06 01 00 F5") 0 (nowhere 15 0) []
    ∷ strings 3 2 (hex "56 02 08 01 02 41 42 56") 0 (nowhere 15 0) []
    ∷ strings 3 2 (hex "56 02 08 02 02 41 C2 E5") 0 (nowhere 15 0) []
    -- 16, 1, and the image's own, before 15
    ∷ strings 1 9 [] 0 (nowhere 16 0) []
    ∷ strings 2 1 (hex "00") 0 (nowhere 16 0) []
    ∷ strings 4 1 no_tags 0 (nowhere 16 0) []
    ∷ strings 4 3 no_tags 0 (nowhere 16 0) []
    ∷ strings 4 9 no_tags 0 (nowhere 16 0) []
    ∷ strings 5 9 no_tags 0 (nowhere 16 0) []
    ∷ strings 3 5 no_tags 0 (nowhere 1 0) []
    ∷ strings 3 4 no_tags 0 (nowhere 15 0) []
    ∷ strings 3 0 no_tags 0 (nowhere 1 0) []
    ∷ strings 3 9 (hex "56") 0 (nowhere 1 0) []
    ∷ strings 3 1 (hex "56 02 05 00 00") 0 (nowhere 6 3) []
    ∷ []

pub every-case : map given cases ≡ map wanted cases
unfolding given
every-case = refl
