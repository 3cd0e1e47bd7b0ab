-- Worked cases of writes, as one statement over a list (01, "Writing, editing, walking").
-- Assumes nothing.
use Prim.Native.Nat.{ℕ}
use mathlib.Core.Path.{◌≡◌, refl}
use mathlib.Core.List.{List, [], ◌∷◌, ◌++◌, map}
use lib.ListN.{replicate}
use Rattle.std.specs.Prelude.{Ok}
use Rattle.layout.specs.declared.Field.{Field}
use Rattle.layout.specs.Bytes.{refusal}
use Rattle.layout.specs.Walk.{Content}
use Rattle.layout.proofs.Cases.{text, hex, fboss_of, five, field, keyed_field, saying_bare, unwritten, writing_long}
use Rattle.layout.proofs.Cases.{Case, numbers, lies, writes, unwrites, rounds, given, wanted}

-- "A", "B", 5, 0 and 1: the values of the five required FBOSS fields
abbrev pub lent : List ℕ
lent = hex "41 42 05 00 01"

-- the five required FBOSS fields, in order
abbrev pub five_fields : List Field
five_fields = field 1 0 1 ∷ field 8 2 1 ∷ field 9 3 1 ∷ field 10 4 1 ∷ field 11 1 1 ∷ []

-- the same with a key
abbrev pub keyed_saying : ℕ → List ℕ → List ℕ → Content
keyed_saying c k v = record { code = c; key = k; value = v }

abbrev pub cases : List Case
cases =
    -- ---- fields in lent bytes: five words, low byte first. Each byte of each word
    lies [] []
    ∷ lies (hex "01 02 03 04 05 06 07 08 09 0A 0B 0C 0D 0E 0F 10 11 12 13") []
    ∷ lies (hex "01 02 03 04 05 06 07 08 09 0A 0B 0C 0D 0E 0F 10 11 12 13 14") (keyed_field 0x04030201 0x08070605 0x0C0B0A09 0x100F0E0D 0x14131211 ∷ [])
    ∷ lies (hex "FF 00 00 00 00 FF 00 00 00 00 FF 00 00 00 00 FF 01 00 00 80") (keyed_field 255 65280 16711680 4278190080 2147483649 ∷ [])
    -- a last one that is cut short counts as none: 39, 40, 41 and 60 bytes
    ∷ lies (replicate 20 0 ++ replicate 19 1) (field 0 0 0 ∷ [])
    ∷ lies (replicate 20 0 ++ replicate 20 1) (field 0 0 0 ∷ keyed_field 0x01010101 0x01010101 0x01010101 0x01010101 0x01010101 ∷ [])
    ∷ lies (replicate 20 0 ++ replicate 20 0 ++ hex "05") (field 0 0 0 ∷ field 0 0 0 ∷ [])
    ∷ lies (replicate 40 0 ++ hex "07 00 00 00 00 00 00 00 00 00 00 00 08 00 00 00 09 00 00 00") (field 0 0 0 ∷ field 0 0 0 ∷ field 7 8 9 ∷ [])
    -- ---- no fields: FBOSS 11, VPD 00, Tiny 56 02 04 6F
    ∷ writes 1 1 [] [] (hex "07") (unwritten 11 0) (hex "07")
    ∷ writes 2 1 [] [] (hex "07 07") (Ok 1) (hex "00 FF")
    ∷ writes 2 2 [] [] (hex "07") (Ok 1) (hex "00")
    ∷ writes 2 2 [] [] [] (unwritten 12 0) []
    ∷ writes 3 1 [] [] (replicate 5 7) (Ok 4) (hex "56 02 04 6F FF")
    ∷ writes 3 2 [] [] (replicate 4 7) (Ok 4) (hex "56 02 04 6F")
    ∷ writes 3 4 [] [] (replicate 4 7) (Ok 4) (hex "56 02 04 6F")
    ∷ writes 3 1 [] [] (replicate 3 7) (unwritten 12 0) (replicate 3 7)
    -- ---- the five required FBOSS fields: one byte more than needed, just enough, one less
    ∷ writes 1 1 five_fields lent (replicate 24 7) (Ok 23) (fboss_of five 0x4826 ++ hex "FF")
    ∷ writes 1 2 five_fields lent (replicate 23 7) (Ok 23) (fboss_of five 0x4826)
    ∷ writes 1 1 five_fields lent (replicate 22 7) (unwritten 12 0) (replicate 22 7)
    -- FFh in every byte after the image's end
    ∷ writes 2 1 [] [] (replicate 9 7) (Ok 1) (hex "00 FF FF FF FF FF FF FF FF")
    -- ---- 11: each required field missing, whatever the values and the output
    ∷ unwrites 1 1 (field 8 2 1 ∷ field 9 3 1 ∷ field 10 4 1 ∷ field 11 1 1 ∷ []) lent 0 (refusal 11 0)
    ∷ unwrites 1 2 (field 1 0 1 ∷ field 9 3 1 ∷ field 10 4 1 ∷ field 11 1 1 ∷ []) lent 30 (refusal 11 0)
    ∷ unwrites 1 1 (field 1 0 1 ∷ field 8 2 1 ∷ field 10 4 1 ∷ field 11 1 1 ∷ []) lent 30 (refusal 11 0)
    ∷ unwrites 1 2 (field 1 0 1 ∷ field 8 2 1 ∷ field 9 3 1 ∷ field 11 1 1 ∷ []) lent 30 (refusal 11 0)
    ∷ unwrites 1 1 (field 1 0 1 ∷ field 8 2 1 ∷ field 9 3 1 ∷ field 10 4 1 ∷ []) lent 0 (refusal 11 0)
    -- ---- 16, 1 and 2, before any field
    ∷ unwrites 0 1 (field 99 9 9 ∷ []) [] 3 (refusal 16 0)
    ∷ unwrites 5 9 (field 99 9 9 ∷ []) [] 3 (refusal 16 0)
    ∷ unwrites 4 9 (field 99 9 9 ∷ []) [] 3 (refusal 1 0)
    ∷ unwrites 4 2 (field 99 9 9 ∷ []) [] 3 (refusal 16 0)
    ∷ unwrites 1 0 (field 99 9 9 ∷ []) [] 3 (refusal 1 0)
    ∷ unwrites 2 5 (field 99 9 9 ∷ []) [] 3 (refusal 1 0)
    ∷ unwrites 1 1 (field 99 9 9 ∷ []) [] 65536 (refusal 14 0)
    ∷ unwrites 1 1 (field 99 9 9 ∷ []) [] 65537 (refusal 2 0)
    -- ---- a refused write gives the number of the field: 14, 13, 9, 7, 8
    ∷ unwrites 1 1 (field 1 0 1 ∷ field 8 2 1 ∷ field 17 0 1 ∷ []) lent 4 (refusal 14 2)
    ∷ unwrites 1 1 (field 1 0 1 ∷ field 8 2 1 ∷ field 2 5 1 ∷ []) lent 4 (refusal 13 2)
    ∷ unwrites 3 1 (field 0x01 0 1 ∷ field 0x01 0 1 ∷ []) lent 4 (refusal 9 1)
    ∷ unwrites 3 1 (field 0x10 0 2 ∷ []) lent 4 (refusal 7 0)
    ∷ unwrites 1 1 (field 1 0 1 ∷ field 8 2 1 ∷ field 1 1 1 ∷ []) lent 4 (refusal 8 2)
    ∷ unwrites 2 1 (keyed_field 0x01 0 1 1 1 ∷ keyed_field 0x01 0 1 0 0 ∷ []) lent 4 (refusal 8 1)
    ∷ unwrites 2 2 (keyed_field 0x01 0 1 1 1 ∷ keyed_field 0xFE 0 1 0 4 ∷ keyed_field 0xFE 1 1 0 4 ∷ []) lent 4 (refusal 8 2)
    -- 14: codes at full width, and codes that no entry can have
    ∷ unwrites 1 1 (field 257 0 1 ∷ []) lent 4 (refusal 14 0)
    ∷ unwrites 2 2 (keyed_field 257 0 1 0 1 ∷ []) lent 4 (refusal 14 0)
    ∷ unwrites 1 2 (field 0 0 1 ∷ []) lent 4 (refusal 14 0)
    ∷ unwrites 1 2 (field 250 0 2 ∷ []) lent 4 (refusal 14 0)
    ∷ unwrites 1 2 (field 255 0 1 ∷ []) lent 4 (refusal 14 0)
    -- 13: a part is inside where place and length together are at most the length of the values; an empty one at the end too
    ∷ unwrites 1 1 (field 1 5 0 ∷ []) lent 4 (refusal 11 0)
    ∷ unwrites 1 1 (field 1 6 0 ∷ []) lent 4 (refusal 13 0)
    ∷ unwrites 1 1 (field 2 0 6 ∷ []) lent 4 (refusal 13 0)
    ∷ unwrites 1 1 (field 1 4294967295 4294967295 ∷ []) lent 4 (refusal 13 0)
    ∷ unwrites 2 1 (keyed_field 0x01 6 0 1 1 ∷ []) lent 4 (refusal 13 0)
    ∷ unwrites 2 1 (keyed_field 0x01 0 1 6 0 ∷ []) lent 4 (refusal 13 0)
    ∷ unwrites 2 1 (keyed_field 0x01 0 6 0 1 ∷ []) lent 4 (refusal 13 0)
    ∷ unwrites 2 1 (keyed_field 0x01 5 0 0 1 ∷ []) lent 4 (refusal 7 0)
    ∷ unwrites 2 1 (keyed_field 0x01 0 1 5 0 ∷ []) lent 4 (refusal 12 0)
    -- outside VPD a key counts as empty, and is no reason for 13
    ∷ unwrites 1 1 (keyed_field 2 99 99 5 0 ∷ []) lent 4 (refusal 11 0)
    ∷ writes 3 1 (keyed_field 0x10 99 99 4 1 ∷ []) lent (replicate 7 7) (Ok 6) (hex "56 02 06 10 01 B0 FF")
    -- the order of a field's refusals: 14, 13, 9, 7, 8; one field before the next
    ∷ unwrites 1 1 (field 17 9 9 ∷ []) lent 4 (refusal 14 0)
    ∷ unwrites 3 1 (field 0x01 0 1 ∷ field 0x02 9 9 ∷ []) lent 4 (refusal 14 1)
    ∷ unwrites 3 1 (field 0x01 0 1 ∷ field 0x10 5 1 ∷ []) lent 4 (refusal 13 1)
    ∷ unwrites 3 1 (field 0x01 0 1 ∷ field 0x10 0 2 ∷ []) lent 4 (refusal 9 1)
    ∷ unwrites 3 1 (field 0x10 0 1 ∷ field 0x10 0 2 ∷ []) lent 4 (refusal 7 1)
    ∷ unwrites 1 1 (five_fields ++ (field 8 0 2 ∷ [])) lent 4 (refusal 7 5)
    ∷ unwrites 1 1 (field 8 0 2 ∷ field 17 9 9 ∷ []) lent 4 (refusal 7 0)
    -- 8 before 11, and 11 before 12
    ∷ unwrites 1 1 (field 1 0 1 ∷ field 1 0 1 ∷ []) lent 0 (refusal 8 1)
    ∷ unwrites 1 1 (field 1 0 1 ∷ []) lent 0 (refusal 11 0)
    -- ---- VPD: no rule on the length of a key or a value; 7 for a key that is empty or has a byte outside the alphabet
    ∷ writes 2 1 (keyed_field 0x01 0 2 2 3 ∷ []) lent (replicate 10 7) (Ok 9) (hex "01 02 41 42 03 05 00 01 00 FF")
    ∷ unwrites 2 1 (keyed_field 0x01 0 2 2 3 ∷ []) lent 8 (refusal 12 0)
    ∷ unwrites 2 2 (keyed_field 0x01 1 2 0 0 ∷ []) lent 30 (refusal 7 0)
    ∷ unwrites 2 1 (keyed_field 0x01 0 8 8 2 ∷ []) (text "lab.rackR2") 30 (refusal 7 0)
    ∷ unwrites 2 2 (keyed_field 0x01 0 3 0 0 ∷ keyed_field 0x01 0 8 8 2 ∷ []) (text "lab.rackR2") 0 (refusal 7 1)
    ∷ writes 2 2 (keyed_field 0x01 0 8 8 2 ∷ []) (text "lab_rackR2") (replicate 14 7) (Ok 14) (hex "01 08 6C 61 62 5F 72 61 63 6B 02 52 32 00")
    ∷ writes 2 2 (keyed_field 0xFE 0 8 8 4 ∷ []) (text "lab.rackR222") (replicate 16 7) (Ok 16) (hex "FE 08 6C 61 62 2E 72 61 63 6B 04 52 32 32 32 00")
    ∷ writes 2 2 (keyed_field 0xFE 2 3 0 4 ∷ []) lent (replicate 11 7) (Ok 11) (hex "FE 03 05 00 01 04 41 42 05 00 00")
    ∷ writes 2 2 (keyed_field 0x01 0 1 0 128 ∷ []) (replicate 128 0x41) (replicate 134 7) (Ok 134) (hex "01 01 41 81 00" ++ replicate 128 0x41 ++ hex "00")
    ∷ writes 2 1 (keyed_field 0x01 0 128 0 0 ∷ []) (replicate 128 0x41) (replicate 133 7) (Ok 133) (hex "01 81 00" ++ replicate 128 0x41 ++ hex "00 00")
    ∷ writes 2 1 (keyed_field 0x01 0 1 0 127 ∷ []) (replicate 127 0x41) (replicate 132 7) (Ok 132) (hex "01 01 41 7F" ++ replicate 127 0x41 ++ hex "00")
    -- a value of 300 bytes: an image of 306, in as many bytes and in one less
    ∷ numbers (writing_long 300 306) 0
    ∷ numbers (writing_long 300 305) 12
    -- ---- FBOSS text of 255 bytes is written, of 256 is 7
    ∷ unwrites 1 1 (field 1 0 255 ∷ []) (replicate 255 0x41) 0 (refusal 11 0)
    ∷ unwrites 1 1 (field 1 0 256 ∷ []) (replicate 256 0x41) 0 (refusal 7 0)
    ∷ unwrites 1 2 (field 16 0 255 ∷ []) (replicate 255 0x41) 0 (refusal 11 0)
    ∷ unwrites 1 2 (field 16 0 256 ∷ []) (replicate 256 0x41) 0 (refusal 7 0)
    -- ---- a Tiny pool alone: 249 bytes fit, 250 to 255 are 12, 256 and more are 7
    ∷ writes 3 1 (field 0x01 0 249 ∷ []) (replicate 249 0xC1) (replicate 256 7) (Ok 255) (hex "56 02 FF 01 F9" ++ replicate 249 0xC1 ++ hex "13 FF")
    ∷ unwrites 3 1 (field 0x01 0 249 ∷ []) (replicate 249 0xC1) 254 (refusal 12 0)
    ∷ unwrites 3 2 (field 0x01 0 250 ∷ []) (replicate 250 0) 300 (refusal 12 0)
    ∷ unwrites 3 1 (field 0x01 0 251 ∷ []) (replicate 251 0) 300 (refusal 12 0)
    ∷ unwrites 3 2 (field 0x01 0 255 ∷ []) (replicate 255 0) 300 (refusal 12 0)
    ∷ unwrites 3 1 (field 0x01 0 256 ∷ []) (replicate 256 0) 300 (refusal 7 0)
    ∷ unwrites 3 2 (field 0x01 0 257 ∷ []) (replicate 257 0) 0 (refusal 7 0)
    -- L is above 255 by several fields
    ∷ unwrites 3 1 (field 0x10 0 1 ∷ field 0x01 0 248 ∷ []) (replicate 248 0) 300 (refusal 12 0)
    -- ---- what is written, in list order
    ∷ writes 3 2 (field 0x81 0 8 ∷ field 0x11 5 1 ∷ field 0x01 8 2 ∷ []) (hex "01 02 63 04 05 06 0F 27 41 C2") (replicate 20 7) (Ok 19)
    (hex "56 02 13 81 01 02 63 04 05 06 0F 27 11 06 01 02 41 C2 30 FF")
    -- edition 3 writes as edition 2 does
    ∷ writes 1 3 five_fields lent (replicate 24 7) (Ok 23) (fboss_of five 0x4826 ++ hex "FF")
    ∷ writes 2 3 (keyed_field 0xFE 2 3 0 4 ∷ []) lent (replicate 11 7) (Ok 11) (hex "FE 03 05 00 01 04 41 42 05 00 00")
    ∷ writes 3 3 (field 0x81 0 8 ∷ field 0x11 5 1 ∷ field 0x01 8 2 ∷ []) (hex "01 02 63 04 05 06 0F 27 41 C2") (replicate 20 7) (Ok 19)
    (hex "56 02 13 81 01 02 63 04 05 06 0F 27 11 06 01 02 41 C2 30 FF")
    ∷ unwrites 1 3 (field 1 0 1 ∷ field 21 0 1 ∷ []) lent 4 (refusal 14 1)
    ∷ unwrites 2 3 (keyed_field 0x01 0 8 8 2 ∷ []) (text "lab.rackR2") 30 (refusal 7 0)
    -- what is written reads back
    ∷ rounds 1 2 (field 12 0 2 ∷ five_fields ++ (field 20 5 8 ∷ [])) (lent ++ text "01234567") 60
    (saying_bare 12 (text "AB") ∷ saying_bare 1 (text "A") ∷ saying_bare 8 (hex "05") ∷ saying_bare 9 (hex "00") ∷ saying_bare 10 (hex "01") ∷ saying_bare 11 (text "B")
    ∷ saying_bare 20 (text "01234567") ∷ [])
    ∷ rounds 2 2 (keyed_field 0x01 0 1 2 3 ∷ keyed_field 0xFE 0 0 0 4 ∷ []) lent 16
    (keyed_saying 0x01 (text "A") (hex "05 00 01") ∷ saying_bare 0xFE (hex "41 42 05 00") ∷ [])
    ∷ rounds 3 2 (keyed_field 0x80 9 9 5 8 ∷ field 0x01 0 2 ∷ []) (hex "41 42 00 00 00 00 01 02 03 04 05 06 07") 30
    (saying_bare 0x80 (hex "00 01 02 03 04 05 06 07") ∷ saying_bare 0x01 (text "AB") ∷ [])
    ∷ []

pub every-case : map given cases ≡ map wanted cases
unfolding given
every-case = refl
