-- Worked cases of additions, as one statement over a list (02, "Add and remove fields").
-- Assumes nothing.
use Prim.Native.Nat.{ℕ}
use mathlib.Core.Path.{◌≡◌, refl}
use mathlib.Core.List.{List, [], ◌∷◌, ◌++◌, map}
use lib.ListN.{length, replicate}
use Rattle.std.specs.Prelude.{Ok}
use Rattle.layout.specs.Bytes.{refusal}
use Rattle.layout.specs.Add.{add_field}
use Rattle.layout.proofs.Cases.{text, hex, run, fboss_of, five, with_block, sku, lab_rack, two_names, no_tags, onie_of, no_entries, field, keyed_field, unwritten, made_number}
use Rattle.layout.proofs.Cases.{Case, alike, numbers, sweeps, adds, unadds, given, wanted}
use Rattle.layout.proofs.CasesEdit.{sku_and_feh, batch_and_pool, all_tags}
use Rattle.layout.proofs.CasesOnie.{board, block, longest}

-- the number of an addition of a field with this code and value, and an empty key, into no bytes: 12 where nothing is wrong with it
abbrev pub adding : ℕ → ℕ → List ℕ → ℕ → List ℕ → ℕ
adding f e image c v = made_number (add_field f e image (field c 0 (length v) ∷ []) v []).answer

-- of a VPD field of type 01h with this key, and no value
abbrev pub adding_key : ℕ → List ℕ → List ℕ → ℕ
adding_key e image key = made_number (add_field 2 e image (keyed_field 0x01 0 (length key) 0 0 ∷ []) key []).answer

-- an ONIE image that declares 2,046 bytes: eight FDh, whose check is soon computed
abbrev pub nearly_longest : List ℕ
nearly_longest =
    onie_of
    (block (hex "61 81 FE 0C") 255 ++ block (hex "7D 70 10 8C") 255 ++ block (hex "7D 70 10 8C") 255 ++ block (hex "7D 70 10 8C") 255 ++ block (hex "7D 70 10 8C") 255 ++ block (hex "7D 70 10 8C") 255 ++ block (hex "7D 70 10 8C") 255
    ++ block (hex "19 60 A7 91") 239)
    (hex "72 AD F7 D5")

abbrev pub cases : List Case
cases =
    -- ---- VPD: the SKU image with PN = "X": more bytes than needed, just enough, one less
    adds 2 1 sku (keyed_field 0x01 0 2 2 1 ∷ []) (text "PNX") (replicate 17 7) (Ok 15) (hex "01 03 53 4B 55 02 41 37 01 02 50 4E 01 58 00 FF FF")
    ∷ adds 2 4 sku (keyed_field 0x01 0 2 2 1 ∷ []) (text "PNX") (replicate 15 7) (Ok 15) (hex "01 03 53 4B 55 02 41 37 01 02 50 4E 01 58 00")
    ∷ adds 2 2 sku (keyed_field 0x01 0 2 2 1 ∷ []) (text "PNX") (replicate 14 7) (unwritten 12 0) (replicate 14 7)
    -- the first field alone, whatever follows it
    ∷ adds 2 1 sku (keyed_field 0x01 0 2 2 1 ∷ field 0x77 900 900 ∷ []) (text "PNX") (replicate 15 7) (Ok 15) (hex "01 03 53 4B 55 02 41 37 01 02 50 4E 01 58 00")
    -- to an image without entries, by either end, and what followed it is dropped
    ∷ adds 2 1 (hex "00") (keyed_field 0x01 0 1 1 0 ∷ []) (text "A") (replicate 6 7) (Ok 5) (hex "01 01 41 00 00 FF")
    ∷ adds 2 1 (hex "FF 09 09") (keyed_field 0x01 0 1 1 0 ∷ []) (text "A") (replicate 5 7) (Ok 5) (hex "01 01 41 00 00")
    -- other frames stay as they are, long lengths and keys of any bytes too; the end becomes 00h
    ∷ adds 2 1 sku_and_feh (keyed_field 0x01 0 1 1 1 ∷ []) (text "AB") (replicate 24 7) (Ok 23)
    (hex "01 03 53 4B 55 02 41 37 FE 80 01 41 04 01 02 03 04 01 01 41 01 42 00 FF")
    ∷ adds 2 2 two_names (keyed_field 0x01 0 1 1 1 ∷ []) (text "AB") (replicate 27 7) (Ok 27)
    (hex "01 08 6C 61 62 2E 72 61 63 6B 02 52 32 01 80 02 00 22 80 01 41 01 01 41 01 42 00")
    -- an info header, of any key
    ∷ adds 2 2 sku (keyed_field 0xFE 0 3 3 4 ∷ []) (hex "53 4B 55 01 02 03 04") (replicate 19 7) (Ok 19) (hex "01 03 53 4B 55 02 41 37 FE 03 53 4B 55 04 01 02 03 04 00")
    ∷ adds 2 2 (hex "00") (keyed_field 0xFE 0 0 0 4 ∷ []) (hex "01 02 03 04") (replicate 8 7) (Ok 8) (hex "FE 00 04 01 02 03 04 00")
    -- lengths in their shortest form
    ∷ adds 2 1 (hex "00") (keyed_field 0x01 0 1 0 128 ∷ []) (replicate 128 0x41) (replicate 134 7) (Ok 134) (hex "01 01 41 81 00" ++ replicate 128 0x41 ++ hex "00")
    -- ---- FBOSS: an address block, and a text by edition 1 behind it
    ∷ adds 1 2 (fboss_of five 0x4826) (field 17 0 8 ∷ []) (hex "02 00 00 00 00 01 00 08") (replicate 33 7) (Ok 33) with_block
    ∷ adds 1 1 with_block (field 12 0 1 ∷ []) (text "A") (replicate 37 7) (Ok 36)
    (fboss_of (five ++ hex "11 08 02 00 00 00 00 01 00 08 0C 01 41") 0x020E ++ hex "FF")
    -- outside VPD a key counts as empty, wherever it is
    ∷ adds 1 1 (fboss_of five 0x4826 ++ hex "09") (keyed_field 12 900 900 0 1 ∷ []) (text "A") (replicate 26 7) (Ok 26) (fboss_of (five ++ hex "0C 01 41") 0x06F9)
    -- ---- Tiny: before the pool, and behind what an older edition does not name; a first pool goes last
    ∷ adds 3 1 batch_and_pool (field 0x10 0 1 ∷ []) (hex "03") (replicate 22 7) (Ok 21) (hex "56 02 15 80 00 01 02 03 04 05 34 12 10 03 01 04 41 C2 C3 44 1F FF")
    ∷ adds 3 1 all_tags (field 0x62 0 6 ∷ []) (hex "00 01 80 63 04 05") (replicate 31 7) (Ok 31)
    (hex "56 02 1F 10 02 11 0F 60 02 00 00 00 01 FF 61 00 01 02 03 04 05 62 00 01 80 63 04 05 01 00 7F")
    ∷ adds 3 2 (hex "56 02 07 01 01 C1 8F") (field 0x10 0 1 ∷ []) (hex "03") (replicate 9 7) (Ok 9) (hex "56 02 09 10 03 01 01 C1 61")
    ∷ adds 3 1 no_tags (field 0x01 0 1 ∷ []) (hex "C1") (replicate 7 7) (Ok 7) (hex "56 02 07 01 01 C1 8F")
    ∷ adds 3 4 (hex "56 02 0D 80 00 01 02 03 04 05 34 12 CB") (field 0x01 0 4 ∷ []) (hex "41 C2 C3 44") (replicate 19 7) (Ok 19) batch_and_pool
    ∷ adds 3 1 (no_tags ++ hex "FF FF") (field 0x11 0 1 ∷ []) (hex "07") (replicate 6 7) (Ok 6) (hex "56 02 06 11 07 B7")
    -- L of 255 is written, and 256 is 12
    ∷ adds 3 1 (hex "56 02 FD 01 F7" ++ replicate 247 0xC1 ++ hex "32") (field 0x10 0 1 ∷ []) (hex "03") (replicate 255 7) (Ok 255)
    (hex "56 02 FF 10 03 01 F7" ++ replicate 247 0xC1 ++ hex "0D")
    ∷ unadds 3 1 (hex "56 02 FE 01 F8" ++ replicate 248 0xC1 ++ hex "D8") (field 0x10 0 1 ∷ []) (hex "03") 300 (refusal 12 0)
    -- ---- ONIE: FDh as often as one likes; a declared length of 2,048 fits, and of 2,049 is 12
    ∷ adds 4 3 no_entries (field 0x21 0 1 ∷ []) (text "A") (replicate 20 7) (Ok 20) (onie_of (hex "21 01 41") (hex "D5 F1 23 CB"))
    ∷ adds 4 4 (onie_of (hex "26 01 00") (hex "16 89 18 2C") ++ hex "09") (field 0x21 0 1 ∷ []) (text "A") (replicate 24 7) (Ok 23) (onie_of (hex "26 01 00 21 01 41") (hex "52 8F 77 75") ++ hex "FF")
    ∷ adds 4 3 (onie_of (hex "FD 04 01 02 03 04") (hex "CA A5 33 49")) (field 0xFD 0 4 ∷ []) (hex "01 02 03 04") (replicate 29 7) (Ok 29)
    (onie_of (hex "FD 04 01 02 03 04 FD 04 01 02 03 04") (hex "97 75 CD F4"))
    ∷ numbers (made_number (add_field 4 3 nearly_longest (field 0x22 0 0 ∷ []) [] (replicate 2059 0)).answer) 0
    ∷ unadds 4 3 nearly_longest (field 0x22 0 0 ∷ []) [] 2058 (refusal 12 0)
    ∷ unadds 4 3 nearly_longest (field 0x22 0 1 ∷ []) (text "A") 2100 (refusal 12 0)
    ∷ unadds 4 4 longest (field 0x22 0 0 ∷ []) [] 2100 (refusal 12 0)
    -- ---- what an older edition added or removed, later ones read
    ∷ alike 1 (fboss_of (five ++ hex "11 08 02 00 00 00 00 01 00 08 0C 01 41") 0x020E ++ hex "FF") (Ok 7)
    ∷ alike 3 (hex "56 02 15 80 00 01 02 03 04 05 34 12 10 03 01 04 41 C2 C3 44 1F FF") (Ok 3)
    -- ---- 16, 1 and 2, then the image's own, before 13
    ∷ unadds 0 1 sku [] [] 3 (refusal 16 0)
    ∷ unadds 5 9 [] [] [] 3 (refusal 16 0)
    ∷ unadds 4 9 [] [] [] 3 (refusal 1 0)
    ∷ unadds 4 2 no_entries [] [] 3 (refusal 16 0)
    ∷ unadds 2 5 sku [] [] 3 (refusal 1 0)
    ∷ unadds 1 1 [] [] [] 65537 (refusal 2 0)
    ∷ unadds 1 1 (replicate 65537 0) [] [] 0 (refusal 2 0)
    ∷ unadds 2 1 (hex "02") [] [] 3 (refusal 6 0)
    ∷ unadds 1 1 (fboss_of five 0x4827) [] [] 3 (refusal 10 21)
    ∷ unadds 2 2 (lab_rack ++ lab_rack ++ hex "00") [] [] 3 (refusal 8 13)
    -- 13: no field, or parts that are not inside; before 14, and before 7, 8 and 12
    ∷ unadds 2 1 sku [] [] 3 (refusal 13 0)
    ∷ unadds 2 1 sku (keyed_field 0x01 0 2 2 2 ∷ []) (text "PNX") 0 (refusal 13 0)
    ∷ unadds 2 1 sku (keyed_field 0x01 2 2 0 1 ∷ []) (text "PNX") 0 (refusal 13 0)
    ∷ unadds 2 1 sku (keyed_field 0x01 0 1 4 0 ∷ []) (text "PNX") 0 (refusal 13 0)
    ∷ adds 2 1 (hex "00") (keyed_field 0x01 0 1 3 0 ∷ []) (text "PNX") (replicate 5 7) (Ok 5) (hex "01 01 50 00 00")
    ∷ unadds 2 1 sku (keyed_field 0x02 9 9 9 9 ∷ []) (text "PNX") 0 (refusal 13 0)
    ∷ unadds 1 1 with_block (field 17 1 8 ∷ []) (replicate 8 0) 0 (refusal 13 0)
    ∷ unadds 3 1 no_tags (field 0x00 0 1 ∷ []) [] 0 (refusal 13 0)
    -- 14: not named in this edition; before 7, 8 and 12. Then 7, before 8 and 12; then 8, before 12
    ∷ unadds 2 1 sku (keyed_field 0xFE 0 1 0 3 ∷ []) (text "PNX") 0 (refusal 14 0)
    ∷ unadds 2 1 sku_and_feh (keyed_field 0xFE 0 1 0 3 ∷ []) (text "PNX") 0 (refusal 14 0)
    ∷ unadds 2 2 sku (keyed_field 0xFE 0 1 0 3 ∷ []) (text "PNX") 0 (refusal 7 0)
    ∷ unadds 1 1 with_block (field 17 0 7 ∷ []) (replicate 7 0) 0 (refusal 14 0)
    ∷ sweeps 22 (λ c. adding 1 1 (fboss_of five 0x4826) c (text "2")) 14 (0 ∷ run 17 21)
    ∷ sweeps 22 (λ c. adding 1 2 (fboss_of five 0x4826) c (text "2")) 12 (2 ∷ 6 ∷ 7 ∷ 12 ∷ 14 ∷ 15 ∷ 16 ∷ [])
    ∷ sweeps 22 (λ c. adding 1 2 (fboss_of five 0x4826) c (text "2")) 7 (3 ∷ 4 ∷ 5 ∷ 13 ∷ 17 ∷ 18 ∷ 19 ∷ 20 ∷ [])
    ∷ sweeps 22 (λ c. adding 1 2 (fboss_of five 0x4826) c (text "2")) 8 (1 ∷ 8 ∷ 9 ∷ 10 ∷ 11 ∷ [])
    ∷ sweeps 258 (λ c. adding 2 1 (hex "00") c (text "2")) 14 (0 ∷ run 2 257)
    ∷ sweeps 258 (λ c. adding 2 2 (hex "00") c (hex "01 02 03 04")) 12 (0xFE ∷ [])
    ∷ sweeps 258 (λ c. adding 3 1 no_tags c (hex "00")) 12 (0x01 ∷ 0x10 ∷ 0x11 ∷ [])
    ∷ sweeps 258 (λ c. adding 3 2 no_tags c (replicate 8 0)) 12 (0x01 ∷ 0x80 ∷ 0x81 ∷ [])
    ∷ sweeps 20 (λ c. adding 3 1 all_tags c (hex "00")) 8 (0x01 ∷ 0x10 ∷ 0x11 ∷ [])
    ∷ sweeps 48 (λ c. adding 4 3 no_entries c (hex "30 30 30 30")) 12 (0x21 ∷ 0x22 ∷ 0x23 ∷ 0x2B ∷ 0x2D ∷ [])
    ∷ sweeps 48 (λ c. adding 4 3 board c (hex "41 41")) 8 (0x21 ∷ 0x2A ∷ [])
    ∷ numbers (adding 1 1 (fboss_of five 0x4826) 2 (replicate 255 0x41)) 12
    ∷ numbers (adding 1 1 (fboss_of five 0x4826) 2 (replicate 256 0x41)) 7
    ∷ numbers (adding 1 1 (fboss_of five 0x4826) 13 (text "20230228")) 12
    ∷ numbers (adding 1 1 (fboss_of five 0x4826) 13 (text "20230229")) 7
    ∷ numbers (adding 1 1 (fboss_of five 0x4826) 1 (hex "7F")) 7
    ∷ numbers (adding 4 3 board 0xFD (hex "01 02 03")) 7
    ∷ numbers (adding 4 3 board 0xFD (hex "01 02 03 04")) 12
    ∷ numbers (adding 3 1 batch_and_pool 0x01 (hex "C1")) 8
    -- an added key has the writer's alphabet, though the image has others; a 01h that is there, a second info header, whatever its key
    ∷ numbers (adding_key 1 sku (text "PN_9z")) 12
    ∷ numbers (adding_key 1 sku (text "lab.rack")) 7
    ∷ numbers (adding_key 1 two_names (text "lab.rack")) 7
    ∷ numbers (adding_key 2 two_names (text "R")) 12
    ∷ numbers (adding_key 1 sku []) 7
    ∷ numbers (adding_key 1 sku (text "SKU")) 8
    ∷ numbers (adding_key 1 sku (text "SK")) 12
    ∷ numbers (adding_key 1 (hex "01 80 03 53 4B 55 00 00") (text "SKU")) 8
    ∷ unadds 2 2 sku_and_feh (keyed_field 0xFE 0 1 0 4 ∷ []) (text "BCDE") 99 (refusal 8 0)
    ∷ numbers (adding_key 2 sku_and_feh (text "A")) 12
    ∷ []

pub every-case : map given cases ≡ map wanted cases
unfolding given
every-case = refl
