-- Worked cases of edits, as one statement over a list (01, "Writing, editing, walking").
-- Assumes nothing.
use Prim.Native.Nat.{ℕ}
use mathlib.Core.Path.{◌≡◌, refl}
use mathlib.Core.List.{List, [], ◌∷◌, ◌++◌, map}
use lib.ListN.{replicate}
use Rattle.std.specs.Prelude.{Ok}
use Rattle.layout.specs.Bytes.{refusal}
use Rattle.layout.proofs.Cases.{text, hex, run, fboss_of, five, board_with, with_block, sku, lab_rack, two_names, three_bytes, no_tags, unwritten, editing}
use Rattle.layout.proofs.Cases.{Case, checks, alike, sweeps, edits, unedits, given, wanted}

-- a 01h, and an FEh whose key has its length in two bytes; an end by FFh, and a byte after it
abbrev pub sku_and_feh : List ℕ
sku_and_feh = hex "01 03 53 4B 55 02 41 37 FE 80 01 41 04 01 02 03 04 FF 09"

-- an identity with batch, and a pool
abbrev pub batch_and_pool : List ℕ
batch_and_pool = hex "56 02 13 80 00 01 02 03 04 05 34 12 01 04 41 C2 C3 44 EB"

-- a string number, test flags, an address block, an identity and a pool
abbrev pub all_tags : List ℕ
all_tags = hex "56 02 18 10 02 11 0F 60 02 00 00 00 01 FF 61 00 01 02 03 04 05 01 00 AA"

abbrev pub cases : List Case
cases =
    -- ---- the SKU image edited to "B": more bytes than needed, just enough, one less
    edits 2 2 sku 0 (text "B") (replicate 10 7) (Ok 8) (hex "01 03 53 4B 55 01 42 00 FF FF")
    ∷ edits 2 1 sku 0 (text "B") (replicate 8 7) (Ok 8) (hex "01 03 53 4B 55 01 42 00")
    ∷ edits 2 2 sku 0 (text "B") (replicate 7 7) (unwritten 12 0) (replicate 7 7)
    ∷ edits 2 2 sku 0 [] (replicate 7 7) (Ok 7) (hex "01 03 53 4B 55 00 00")
    -- a value of 127 and of 128 bytes
    ∷ edits 2 1 sku 0 (replicate 127 9) (replicate 134 7) (Ok 134) (hex "01 03 53 4B 55 7F" ++ replicate 127 9 ++ hex "00")
    ∷ edits 2 1 sku 0 (replicate 128 9) (replicate 137 7) (Ok 136) (hex "01 03 53 4B 55 81 00" ++ replicate 128 9 ++ hex "00 FF")
    -- an edit keeps the key's length bytes, and other frames as they are; it drops what followed the end, and an FFh end becomes 00h
    ∷ edits 2 2 sku_and_feh 1 (hex "09 08 07 06") (replicate 20 7) (Ok 18) (hex "01 03 53 4B 55 02 41 37 FE 80 01 41 04 09 08 07 06 00 FF FF")
    ∷ edits 2 1 sku_and_feh 0 (text "B") (replicate 17 7) (Ok 17) (hex "01 03 53 4B 55 01 42 FE 80 01 41 04 01 02 03 04 00")
    ∷ edits 2 1 (hex "01 01 41 80 80 02 42 43 01 01 42 80 01 44 00") 0 (text "E") (replicate 14 7) (Ok 12) (hex "01 01 41 01 45 01 01 42 80 01 44 00 FF FF")
    ∷ edits 2 1 (hex "01 01 41 80 80 02 42 43 01 01 42 80 01 44 00") 1 (text "E") (replicate 14 7) (Ok 14) (hex "01 01 41 80 80 02 42 43 01 01 42 01 45 00")
    -- an edit reads by the reader's rule on keys, and keeps a key as it is
    ∷ edits 2 1 two_names 0 (text "R17") (replicate 23 7) (Ok 23) (hex "01 08 6C 61 62 2E 72 61 63 6B 03 52 31 37 01 80 02 00 22 80 01 41 00")
    ∷ edits 2 2 two_names 1 [] (replicate 21 7) (Ok 20) (hex "01 08 6C 61 62 2E 72 61 63 6B 02 52 32 01 80 02 00 22 00 00 FF")
    ∷ unedits 2 1 (lab_rack ++ lab_rack ++ hex "00") 0 (text "R3") 30 (refusal 8 13)
    ∷ unedits 2 2 (lab_rack ++ hex "01 00 00 00") 0 (text "R3") 30 (refusal 7 13)
    -- ---- FBOSS: the first entry, one in the middle and the last that edition 1 names, before an entry that it does not
    ∷ edits 1 1 (fboss_of five 0x4826) 0 (text "XY") (replicate 25 7) (Ok 24) (fboss_of (hex "01 02 58 59 08 01 05 09 01 00 0A 01 01 0B 01 42") 0x3C44 ++ hex "FF")
    ∷ edits 1 2 (fboss_of five 0x4826 ++ hex "00 FF") 2 (hex "FF") (replicate 23 7) (Ok 23) (fboss_of (hex "01 01 41 08 01 05 09 01 FF 0A 01 01 0B 01 42") 0xED57)
    ∷ edits 1 1 with_block 4 (text "XYZ") (replicate 36 7) (Ok 35)
    (fboss_of (hex "01 01 41 08 01 05 09 01 00 0A 01 01 0B 03 58 59 5A 11 08 02 00 00 00 00 01 00 08") 0xF626 ++ hex "FF")
    ∷ edits 1 2 with_block 5 (hex "01 02 03 04 05 06 07 08") (replicate 33 7) (Ok 33) (board_with 17 (hex "01 02 03 04 05 06 07 08") 0x61A5)
    -- ---- Tiny: a value of its tag's length, and a pool, which changes L
    ∷ edits 3 1 batch_and_pool 1 (hex "C1") (replicate 17 7) (Ok 16) (hex "56 02 10 80 00 01 02 03 04 05 34 12 01 01 C1 5F" ++ hex "FF")
    ∷ edits 3 2 batch_and_pool 0 (hex "01 02 63 63 05 06 0F 27") (replicate 19 7) (Ok 19) (hex "56 02 13 80 01 02 63 63 05 06 0F 27 01 04 41 C2 C3 44 AF")
    ∷ edits 3 1 all_tags 1 (hex "F1") (replicate 24 7) (Ok 24) (hex "56 02 18 10 02 11 F1 60 02 00 00 00 01 FF 61 00 01 02 03 04 05 01 00 45")
    -- edition 3 edits as edition 2 does
    ∷ edits 1 3 with_block 5 (hex "01 02 03 04 05 06 07 08") (replicate 33 7) (Ok 33) (board_with 17 (hex "01 02 03 04 05 06 07 08") 0x61A5)
    ∷ edits 2 3 sku_and_feh 1 (hex "09 08 07 06") (replicate 20 7) (Ok 18) (hex "01 03 53 4B 55 02 41 37 FE 80 01 41 04 09 08 07 06 00 FF FF")
    ∷ edits 3 3 batch_and_pool 0 (hex "01 02 63 63 05 06 0F 27") (replicate 19 7) (Ok 19) (hex "56 02 13 80 01 02 63 63 05 06 0F 27 01 04 41 C2 C3 44 AF")
    ∷ unedits 1 3 with_block 5 (hex "01 02 03 04 05 06 07") 40 (refusal 7 19)
    ∷ unedits 2 3 sku_and_feh 1 (text "B") 0 (refusal 7 8)
    ∷ unedits 3 3 batch_and_pool 0 (hex "00 00 00 00 00 00 10 27") 30 (refusal 7 3)
    -- and so does edition 4
    ∷ edits 1 4 with_block 5 (hex "01 02 03 04 05 06 07 08") (replicate 33 7) (Ok 33) (board_with 17 (hex "01 02 03 04 05 06 07 08") 0x61A5)
    ∷ edits 2 4 sku_and_feh 1 (hex "09 08 07 06") (replicate 20 7) (Ok 18) (hex "01 03 53 4B 55 02 41 37 FE 80 01 41 04 09 08 07 06 00 FF FF")
    ∷ edits 3 4 batch_and_pool 0 (hex "01 02 63 63 05 06 0F 27") (replicate 19 7) (Ok 19) (hex "56 02 13 80 01 02 63 63 05 06 0F 27 01 04 41 C2 C3 44 AF")
    -- later editions read what edition 1 has edited
    ∷ checks 1 3 (fboss_of (hex "01 01 41 08 01 05 09 01 00 0A 01 01 0B 03 58 59 5A 11 08 02 00 00 00 00 01 00 08") 0xF626 ++ hex "FF") (Ok 6)
    ∷ checks 1 2 (fboss_of (hex "01 01 41 08 01 05 09 01 00 0A 01 01 0B 03 58 59 5A 11 08 02 00 00 00 00 01 00 08") 0xF626 ++ hex "FF") (Ok 6)
    ∷ alike 2 (hex "01 03 53 4B 55 01 42 FE 80 01 41 04 01 02 03 04 00") (Ok 2)
    ∷ alike 3 (hex "56 02 10 80 00 01 02 03 04 05 34 12 01 01 C1 5F" ++ hex "FF") (Ok 2)
    -- ---- 16, 1 and 2, before the image's own. 2 for the image, and for the output
    ∷ unedits 0 1 sku 0 [] 3 (refusal 16 0)
    ∷ unedits 5 9 [] 0 [] 3 (refusal 16 0)
    ∷ unedits 4 9 [] 0 [] 3 (refusal 1 0)
    ∷ unedits 4 2 [] 0 [] 3 (refusal 16 0)
    ∷ unedits 2 0 sku 0 [] 3 (refusal 1 0)
    ∷ unedits 2 5 sku 0 [] 3 (refusal 1 0)
    ∷ unedits 1 1 [] 0 [] 65537 (refusal 2 0)
    ∷ unedits 1 1 [] 0 [] 65536 (refusal 3 0)
    ∷ unedits 1 1 (replicate 65537 0) 0 [] 0 (refusal 2 0)
    ∷ unedits 1 1 (replicate 65536 0) 0 [] 0 (refusal 3 0)
    -- the image's own refusals, before 13
    ∷ unedits 2 1 (hex "02") 5 [] 3 (refusal 6 0)
    ∷ unedits 2 2 three_bytes 5 [] 3 (refusal 7 0)
    ∷ unedits 1 1 (fboss_of five 0x4827) 5 [] 3 (refusal 10 21)
    -- 13 at 0: no entry of that number
    ∷ unedits 2 2 sku 1 (text "B") 10 (refusal 13 0)
    ∷ unedits 2 2 sku_and_feh 2 (text "B") 10 (refusal 13 0)
    ∷ unedits 3 1 no_tags 0 [] 10 (refusal 13 0)
    -- 14 at the old entry's place: not named in this edition; before 7 and 12
    ∷ unedits 2 1 three_bytes 0 (text "B") 0 (refusal 14 0)
    ∷ unedits 2 1 sku_and_feh 1 (hex "01 02 03 04") 30 (refusal 14 8)
    ∷ unedits 1 1 with_block 5 (hex "01 02 03 04 05 06 07 08") 40 (refusal 14 19)
    ∷ unedits 3 1 batch_and_pool 0 (hex "00 00 00 00 00 00 00 00") 30 (refusal 14 3)
    -- 7 at the old entry's place, before 12
    ∷ unedits 2 2 sku_and_feh 1 (text "B") 0 (refusal 7 8)
    ∷ unedits 1 1 with_block 4 (hex "7F") 0 (refusal 7 16)
    ∷ unedits 1 2 with_block 5 (hex "01 02 03 04 05 06 07") 40 (refusal 7 19)
    ∷ unedits 3 2 batch_and_pool 0 (hex "00 00 00 00 00 00 10 27") 30 (refusal 7 3)
    ∷ unedits 3 1 all_tags 1 (hex "01 02") 30 (refusal 7 5)
    ∷ sweeps 3 (λ n. editing 1 2 (fboss_of five 0x4826) 3 (replicate n 0x41)) 12 (1 ∷ [])
    ∷ unedits 1 2 with_block 5 (hex "01 02 03 04 05 06 07 08 09") 40 (refusal 7 19)
    ∷ sweeps 10 (λ n. editing 2 2 sku_and_feh 0 (replicate n 0x41)) 12 (run 0 9)
    ∷ sweeps 10 (λ n. editing 2 2 sku_and_feh 1 (replicate n 0x41)) 12 (4 ∷ [])
    ∷ sweeps 10 (λ n. editing 3 1 all_tags 0 (replicate n 0x41)) 12 (1 ∷ [])
    ∷ sweeps 10 (λ n. editing 3 1 all_tags 2 (replicate n 0x41)) 12 (6 ∷ [])
    ∷ sweeps 10 (λ n. editing 3 1 all_tags 4 (replicate n 0x41)) 12 (run 0 9)
    -- FBOSS text of 256 bytes is 7. A Tiny pool: L 255 is written, 256 is 12, and 256 bytes of value are 7
    ∷ unedits 1 1 (fboss_of five 0x4826) 0 (replicate 255 0x41) 276 (refusal 12 0)
    ∷ unedits 1 1 (fboss_of five 0x4826) 0 (replicate 256 0x41) 300 (refusal 7 4)
    ∷ unedits 3 1 batch_and_pool 1 (replicate 241 0) 300 (refusal 12 0)
    ∷ unedits 3 1 batch_and_pool 1 (replicate 240 0) 254 (refusal 12 0)
    ∷ unedits 3 1 batch_and_pool 1 (replicate 255 0) 300 (refusal 12 0)
    ∷ unedits 3 1 batch_and_pool 1 (replicate 256 0) 300 (refusal 7 12)
    ∷ edits 3 2 (hex "56 02 06 01 00 F5") 0 (replicate 249 0xC1) (replicate 255 7) (Ok 255) (hex "56 02 FF 01 F9" ++ replicate 249 0xC1 ++ hex "13")
    ∷ []

pub every-case : map given cases ≡ map wanted cases
unfolding given
every-case = refl
