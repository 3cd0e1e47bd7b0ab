-- Worked cases of VPD images, as one statement over a list (01, "VPD 2.0 (002)"; 02, "VPD names with dots").
-- Assumes nothing.
use Prim.Native.Nat.{ℕ}
use mathlib.Core.Path.{◌≡◌, refl}
use mathlib.Core.List.{List, [], ◌∷◌, ◌++◌, map}
use lib.ListN.{replicate}
use Rattle.std.specs.Prelude.{Ok, Err}
use Rattle.layout.specs.Bytes.{part_at}
use Rattle.layout.proofs.Cases.{text, hex, run, key_only, sku, lab_rack, two_names, three_bytes, keyed, refuses, misses, nowhere, checking, writing, writing_key, naming}
use Rattle.layout.proofs.Cases.{Case, lengths, shortests, checks, alike, sweeps, lists, entries, finds, values, steps, edits, given, wanted}

-- a 01h, an FEh whose key has its length in two bytes, and a 01h; an end by FFh, and a byte after it
abbrev pub three_entries : List ℕ
three_entries = hex "01 03 53 4B 55 02 41 37 FE 80 01 41 04 01 02 03 04 01 01 42 80 00 FF 09"

-- a 01h with a value of 128 bytes, whose length has two bytes
abbrev pub long_value : List ℕ
long_value = hex "01 01 41 81 00" ++ replicate 128 0x42 ++ hex "00"

-- a 01h with a key of 130 bytes, whose length has three bytes where two would do
abbrev pub long_key : List ℕ
long_key = hex "01 80 81 02" ++ replicate 130 0x43 ++ hex "01 44 00"

-- entries whose key's length and value's length have one, two, three and four bytes
abbrev pub every_form : List ℕ
every_form = hex "01 01 41 00 01 80 01 42 80 01 58 01 80 80 01 43 80 80 02 59 5A FE 80 80 80 01 44 80 80 80 04 01 02 03 04 00"

-- the same after an edit of the second value, whose length is then in its shortest form
abbrev pub every_form_edited : List ℕ
every_form_edited = hex "01 01 41 00 01 80 01 42 03 56 57 58 01 80 80 01 43 80 80 02 59 5A FE 80 80 80 01 44 80 80 80 04 01 02 03 04 00"

-- an FEh without a key, and a value of n bytes
abbrev pub feh : ℕ → List ℕ
feh n = 0xFE ∷ 0 ∷ n ∷ (replicate n 0 ++ hex "00")

-- the bytes of a key that is written
abbrev pub key_bytes : List ℕ
key_bytes = run 0x30 0x39 ++ run 0x41 0x5A ++ (0x5F ∷ run 0x61 0x7A)

abbrev pub cases : List Case
cases =
    -- ---- lengths: one to four bytes, each group in its place; leading zero groups
    lengths (hex "00") (Ok (0, 1))
    ∷ lengths (hex "7F") (Ok (127, 1))
    ∷ lengths (hex "81 00") (Ok (128, 2))
    ∷ lengths (hex "FF 7F") (Ok (16383, 2))
    ∷ lengths (hex "81 80 00") (Ok (16384, 3))
    ∷ lengths (hex "FF FF 7F") (Ok (2097151, 3))
    ∷ lengths (hex "81 80 80 00") (Ok (2097152, 4))
    ∷ lengths (hex "81 82 83 04") (Ok (2130308, 4))
    ∷ lengths (hex "FF FF FF 7F") (Ok (268435455, 4))
    ∷ lengths (hex "80 80 80 00") (Ok (0, 4))
    ∷ lengths (hex "80 80 01 99") (Ok (1, 3))
    -- 6: a fourth with its top bit on, even as the last byte. 5: no byte, or none after a top bit
    ∷ lengths (hex "80 80 80 80") (Err 6)
    ∷ lengths (hex "80 80 80 80 00") (Err 6)
    ∷ lengths (hex "FF FF FF FF 7F") (Err 6)
    ∷ lengths [] (Err 5)
    ∷ lengths (hex "80") (Err 5)
    ∷ lengths (hex "80 80") (Err 5)
    ∷ lengths (hex "80 80 80") (Err 5)
    -- the shortest bytes, on both sides of each number of bytes
    ∷ shortests 0 (hex "00")
    ∷ shortests 127 (hex "7F")
    ∷ shortests 128 (hex "81 00")
    ∷ shortests 300 (hex "82 2C")
    ∷ shortests 16383 (hex "FF 7F")
    ∷ shortests 16384 (hex "81 80 00")
    ∷ shortests 65535 (hex "83 FF 7F")
    ∷ shortests 65793 (hex "84 82 01")
    ∷ shortests 2097151 (hex "FF FF 7F")
    ∷ shortests 2097152 (hex "81 80 80 00")
    ∷ shortests 2130308 (hex "81 82 83 04")
    ∷ shortests 268435455 (hex "FF FF FF 7F")
    -- ---- what ends an image; nothing after it is looked at
    ∷ alike 2 [] (refuses 5 0)
    ∷ alike 2 (hex "00") (Ok 0)
    ∷ alike 2 (hex "FF") (Ok 0)
    ∷ alike 2 (hex "00 02") (Ok 0)
    ∷ alike 2 (hex "FF 01 02") (Ok 0)
    ∷ alike 2 (sku ++ hex "02 02") (Ok 1)
    -- the types: 00h and FFh end, 01h and FEh open an entry, any other can't be skipped
    ∷ sweeps 256 (λ b. checking 2 1 (b ∷ [])) 0 (0x00 ∷ 0xFF ∷ [])
    ∷ sweeps 256 (λ b. checking 2 2 (b ∷ [])) 5 (0x01 ∷ 0xFE ∷ [])
    ∷ sweeps 256 (λ b. checking 2 2 (b ∷ hex "01 41 00 00")) 6 (run 0x02 0xFD)
    ∷ alike 2 (hex "02") (refuses 6 0)
    ∷ alike 2 (hex "82 01 41 00 00") (refuses 6 0)
    ∷ alike 2 (hex "01 01 41 00 02") (refuses 6 4)
    ∷ alike 2 (hex "01 01 41 00 FD 01 41 00 00") (refuses 6 4)
    -- ---- frames. 5: no end; a length, a key or a value past the room
    ∷ alike 2 (hex "01") (refuses 5 0)
    ∷ alike 2 (hex "01 80 80 80") (refuses 5 0)
    ∷ alike 2 (hex "01 02 41") (refuses 5 0)
    ∷ alike 2 (hex "01 01 41") (refuses 5 0)
    ∷ alike 2 (hex "01 01 41 80") (refuses 5 0)
    ∷ alike 2 (hex "01 01 41 80 80 80") (refuses 5 0)
    ∷ alike 2 (hex "01 01 41 02 42") (refuses 5 0)
    ∷ alike 2 (hex "01 01 41 01 42") (refuses 5 5)
    ∷ alike 2 (hex "01 01 41 01 42 01 02 41") (refuses 5 5)
    ∷ alike 2 (hex "FE 01 41 00") (refuses 5 4)
    -- 6: a fourth length byte with its top bit on, of a key and of a value, before a value past the room
    ∷ alike 2 (hex "FE 80 80 80 80") (refuses 6 0)
    ∷ alike 2 (hex "01 01 41 80 80 80 80") (refuses 6 0)
    ∷ alike 2 (hex "01 01 41 00 01 01 42 FF FF FF FF 00") (refuses 6 4)
    ∷ alike 2 (hex "01 01 41 FF FF FF 7F 00") (refuses 5 0)
    -- lengths of four bytes, of a key and of a value
    ∷ finds 2 1 (hex "01 80 80 80 01 41 80 80 80 01 42 00") 0 (Ok (keyed 0x01 513 0 11 5 1 10 1))
    ∷ finds 2 2 (hex "FE 80 80 80 01 41 80 80 80 04 01 02 03 04 00") 0 (Ok (keyed 0xFE 766 0 14 5 1 10 4))
    ∷ finds 2 2 long_value 0 (Ok (keyed 0x01 513 0 133 2 1 5 128))
    ∷ finds 2 1 long_key 0 (Ok (keyed 0x01 513 0 136 4 130 135 1))
    -- the length of a whole frame has the length bytes as they are stored, in the first edition as in the last, and after an edit by an older one
    ∷ lists 2 4 every_form (keyed 0x01 513 0 4 2 1 4 0 ∷ keyed 0x01 513 4 7 7 1 10 1 ∷ keyed 0x01 513 11 10 15 1 19 2 ∷ keyed 0xFE 766 21 14 26 1 31 4 ∷ [])
    ∷ lists 2 1 every_form (keyed 0x01 513 0 4 2 1 4 0 ∷ keyed 0x01 513 4 7 7 1 10 1 ∷ keyed 0x01 513 11 10 15 1 19 2 ∷ keyed 0xFE 0 21 14 26 1 31 4 ∷ [])
    ∷ steps 2 4 2 every_form (Ok (keyed 0x01 513 11 10 15 1 19 2)) 3
    ∷ edits 2 1 every_form 1 (text "VWX") (replicate 39 7) (Ok 37) (every_form_edited ++ hex "FF FF")
    ∷ lists 2 4 (every_form_edited ++ hex "FF FF") (keyed 0x01 513 0 4 2 1 4 0 ∷ keyed 0x01 513 4 8 7 1 9 3 ∷ keyed 0x01 513 12 10 16 1 20 2 ∷ keyed 0xFE 766 22 14 27 1 32 4 ∷ [])
    ∷ values 2 4 every_form 3 (Ok (part_at 31 4)) (hex "01 02 03 04")
    -- a frame of more than 256 bytes, and one whose value has a length of three bytes
    ∷ finds 2 4 (hex "01 01 41 82 00" ++ replicate 256 0x42 ++ hex "00") 0 (Ok (keyed 0x01 513 0 261 2 1 5 256))
    ∷ finds 2 4 (hex "01 01 41 81 80 00" ++ replicate 16384 0x42 ++ hex "00") 0 (Ok (keyed 0x01 513 0 16390 2 1 6 16384))
    -- a frame before a rule
    ∷ alike 2 (hex "01 00 00 02 00") (refuses 6 3)
    ∷ alike 2 (hex "01 00 00 01") (refuses 5 3)
    -- ---- 7: the key of a 01h has at least one byte, and any bytes
    ∷ alike 2 (key_only []) (refuses 7 0)
    ∷ alike 2 (hex "01 01 41 00 01 00 00 00") (refuses 7 4)
    ∷ alike 2 (hex "01 80 00 00 00") (refuses 7 0)
    ∷ sweeps 10 (λ n. checking 2 1 (key_only (replicate n 0x2E))) 7 (0 ∷ [])
    ∷ sweeps 10 (λ n. checking 2 2 (key_only (replicate n 0))) 0 (run 1 9)
    ∷ sweeps 256 (λ b. checking 2 1 (key_only (b ∷ []))) 0 (run 0 255)
    ∷ sweeps 256 (λ b. checking 2 2 (key_only (b ∷ []))) 0 (run 0 255)
    ∷ sweeps 256 (λ b. checking 2 2 (key_only (0x41 ∷ b ∷ []))) 0 (run 0 255)
    -- a name with a dot, in each call
    ∷ alike 2 (lab_rack ++ hex "00") (Ok 1)
    ∷ lists 2 1 two_names (keyed 0x01 513 0 13 2 8 11 2 ∷ keyed 0x01 513 13 8 16 2 20 1 ∷ [])
    ∷ lists 2 2 two_names (keyed 0x01 513 0 13 2 8 11 2 ∷ keyed 0x01 513 13 8 16 2 20 1 ∷ [])
    ∷ lists 2 3 two_names (keyed 0x01 513 0 13 2 8 11 2 ∷ keyed 0x01 513 13 8 16 2 20 1 ∷ [])
    ∷ entries 2 2 two_names (keyed 0x01 513 0 13 2 8 11 2 ∷ keyed 0x01 513 13 8 16 2 20 1 ∷ [])
    ∷ finds 2 1 two_names 0 (Ok (keyed 0x01 513 0 13 2 8 11 2))
    ∷ finds 2 2 two_names 1 (Ok (keyed 0x01 513 13 8 16 2 20 1))
    ∷ values 2 1 two_names 0 (Ok (part_at 11 2)) (text "R2")
    ∷ values 2 2 two_names 1 (Ok (part_at 20 1)) (text "A")
    ∷ steps 2 1 0 two_names (Ok (keyed 0x01 513 0 13 2 8 11 2)) 1
    -- 7: of a key that is written, at least one byte, each from the alphabet
    ∷ sweeps 2 (λ n. writing_key 1 (replicate n 0x41)) 7 (0 ∷ [])
    ∷ sweeps 256 (λ b. writing_key 1 (b ∷ [])) 12 key_bytes
    ∷ sweeps 256 (λ b. writing_key 2 (0x41 ∷ b ∷ [])) 12 key_bytes
    ∷ sweeps 256 (λ b. writing_key 2 (b ∷ [])) 7 (run 0 0x2F ++ run 0x3A 0x40 ++ run 0x5B 0x5E ++ (0x60 ∷ run 0x7B 0xFF))
    -- no rule on the value of a 01h, nor on the key of an FEh
    ∷ sweeps 10 (λ n. checking 2 2 (0x01 ∷ 1 ∷ 0x41 ∷ n ∷ (replicate n 0xFF ++ hex "00"))) 0 (run 0 9)
    ∷ sweeps 256 (λ b. checking 2 2 (0xFE ∷ 1 ∷ b ∷ hex "04 00 00 00 00 00")) 0 (run 0 255)
    -- 7: an FEh has a value of four bytes; edition 1 does not name it
    ∷ checks 2 2 (hex "FE 01 41 04 01 02 03 04 00") (Ok 1)
    ∷ sweeps 10 (λ n. checking 2 2 (feh n)) 0 (4 ∷ [])
    ∷ sweeps 10 (λ n. checking 2 2 (feh n)) 7 (run 0 3 ++ run 5 9)
    ∷ sweeps 10 (λ n. checking 2 3 (feh n)) 7 (run 0 3 ++ run 5 9)
    ∷ sweeps 10 (λ n. checking 2 1 (feh n)) 0 (run 0 9)
    ∷ sweeps 10 (λ n. writing 2 2 0xFE (replicate n 0)) 12 (4 ∷ [])
    ∷ checks 2 2 (hex "01 01 41 00 FE 00 03 01 02 03 00") (refuses 7 4)
    -- ---- 8: at the second of the two, whatever the form of its lengths and its value; keys compare as bytes
    ∷ alike 2 (hex "01 01 41 00 01 80 01 41 01 42 00") (refuses 8 4)
    ∷ alike 2 (hex "01 01 41 00 01 01 42 00 01 01 41 00 00") (refuses 8 8)
    ∷ alike 2 (hex "01 01 41 00 01 01 42 00 01 01 42 00 00") (refuses 8 8)
    ∷ alike 2 (lab_rack ++ lab_rack ++ hex "00") (refuses 8 13)
    ∷ alike 2 (lab_rack ++ hex "01 80 08 6C 61 62 2E 72 61 63 6B 00 00") (refuses 8 13)
    ∷ alike 2 (lab_rack ++ hex "01 08 6C 61 62 5F 72 61 63 6B 00 01 08 6C 61 62 2E 52 61 63 6B 00 00") (Ok 3)
    ∷ alike 2 (hex "01 01 00 00 01 02 00 00 00 01 03 00 00 00 00 00") (Ok 3)
    ∷ alike 2 (hex "01 01 00 00 01 02 00 00 00 01 01 00 00 00") (refuses 8 9)
    ∷ alike 2 (hex "01 01 41 00 01 01 61 00 00") (Ok 2)
    ∷ alike 2 (hex "01 01 41 00 01 02 41 42 00 00") (Ok 2)
    ∷ alike 2 (hex "01 02 41 42 00 01 01 41 00 00") (Ok 2)
    ∷ alike 2 (hex "01 02 41 42 00 01 02 41 43 00 00") (Ok 2)
    ∷ alike 2 (hex "01 02 41 42 00 01 02 43 42 00 00") (Ok 2)
    ∷ checks 2 1 (hex "FE 00 04 00 00 00 00 FE 01 41 04 00 00 00 00 00") (Ok 2)
    ∷ checks 2 2 (hex "FE 00 04 00 00 00 00 FE 01 41 04 00 00 00 00 00") (refuses 8 7)
    ∷ checks 2 3 (hex "FE 00 04 00 00 00 00 FE 01 41 04 00 00 00 00 00") (refuses 8 7)
    ∷ alike 2 (hex "FE 01 41 04 00 00 00 00 01 01 41 00 00") (Ok 2)
    ∷ alike 2 (hex "01 01 41 00 FE 01 41 04 00 00 00 00 00") (Ok 2)
    -- 7 before 8
    ∷ checks 2 2 (hex "FE 00 04 00 00 00 00 FE 00 03 00 00 00 00") (refuses 7 7)
    -- the first entry that is wrong
    ∷ alike 2 (hex "01 01 41 00 01 01 41 00 01 00 00 00") (refuses 8 4)
    ∷ alike 2 (hex "01 00 00 01 00 00 00") (refuses 7 0)
    -- ---- the types that each edition names: 13, and 14 for any other
    ∷ sweeps 300 (λ c. naming 2 1 c) 13 (0x01 ∷ [])
    ∷ sweeps 300 (λ c. naming 2 2 c) 13 (0x01 ∷ 0xFE ∷ [])
    ∷ sweeps 300 (λ c. naming 2 3 c) 13 (0x01 ∷ 0xFE ∷ [])
    ∷ sweeps 300 (λ c. naming 2 4 c) 13 (0x01 ∷ 0xFE ∷ [])
    ∷ sweeps 300 (λ c. naming 2 2 c) 14 (0x00 ∷ run 0x02 0xFD ++ run 0xFF 299)
    -- ---- records, in every edition. An FEh has its key at its own place, an empty one too
    ∷ lists 2 1 three_entries (keyed 0x01 513 0 8 2 3 6 2 ∷ keyed 0xFE 0 8 9 11 1 13 4 ∷ keyed 0x01 513 17 5 19 1 22 0 ∷ [])
    ∷ lists 2 2 three_entries (keyed 0x01 513 0 8 2 3 6 2 ∷ keyed 0xFE 766 8 9 11 1 13 4 ∷ keyed 0x01 513 17 5 19 1 22 0 ∷ [])
    ∷ lists 2 3 three_entries (keyed 0x01 513 0 8 2 3 6 2 ∷ keyed 0xFE 766 8 9 11 1 13 4 ∷ keyed 0x01 513 17 5 19 1 22 0 ∷ [])
    ∷ entries 2 1 three_entries (keyed 0x01 513 0 8 2 3 6 2 ∷ keyed 0xFE 0 8 9 11 1 13 4 ∷ keyed 0x01 513 17 5 19 1 22 0 ∷ [])
    ∷ entries 2 2 three_entries (keyed 0x01 513 0 8 2 3 6 2 ∷ keyed 0xFE 766 8 9 11 1 13 4 ∷ keyed 0x01 513 17 5 19 1 22 0 ∷ [])
    ∷ entries 2 2 three_bytes []
    ∷ finds 2 1 (feh 4) 0 (Ok (keyed 0xFE 0 0 7 2 0 3 4))
    ∷ finds 2 2 (feh 4) 0 (Ok (keyed 0xFE 766 0 7 2 0 3 4))
    -- entry, value and step: the first, in the middle, the last and past it
    ∷ finds 2 1 three_entries 0 (Ok (keyed 0x01 513 0 8 2 3 6 2))
    ∷ finds 2 1 three_entries 1 (Ok (keyed 0xFE 0 8 9 11 1 13 4))
    ∷ finds 2 2 three_entries 1 (Ok (keyed 0xFE 766 8 9 11 1 13 4))
    ∷ finds 2 2 three_entries 2 (Ok (keyed 0x01 513 17 5 19 1 22 0))
    ∷ finds 2 1 three_entries 3 (misses 13 0)
    ∷ finds 2 2 three_entries 3 (misses 13 0)
    ∷ values 2 2 sku 0 (Ok (part_at 6 2)) (text "A7")
    ∷ values 2 2 sku 1 (nowhere 13 0) []
    ∷ values 2 1 three_entries 1 (Ok (part_at 13 4)) (hex "01 02 03 04")
    ∷ values 2 2 three_entries 1 (Ok (part_at 13 4)) (hex "01 02 03 04")
    ∷ values 2 2 three_entries 2 (Ok (part_at 22 0)) []
    ∷ values 2 2 three_bytes 0 (nowhere 7 0) []
    ∷ steps 2 2 0 sku (Ok (keyed 0x01 513 0 8 2 3 6 2)) 1
    ∷ steps 2 2 1 sku (misses 13 0) 1
    ∷ steps 2 1 1 three_entries (Ok (keyed 0xFE 0 8 9 11 1 13 4)) 2
    ∷ steps 2 2 2 three_entries (Ok (keyed 0x01 513 17 5 19 1 22 0)) 3
    ∷ steps 2 2 3 three_entries (misses 13 0) 3
    ∷ steps 2 2 0 three_bytes (misses 7 0) 0
    ∷ []

pub every-case : map given cases ≡ map wanted cases
unfolding given
every-case = refl
