-- Worked cases of the vendor write: serials, pieces, the output, refusals and their order, as one statement over a list
-- (02, "Vendor blocks for the optics lab"; 003).
-- Assumes nothing.
use mathlib.Core.Path.{◌≡◌, refl}
use mathlib.Core.List.{List, [], ◌∷◌, ◌++◌, map}
use lib.IntN.{pos}
use lib.ListN.{replicate}
use Rattle.std.specs.Prelude.{Ok, Err}
use Rattle.layout.specs.Bytes.{refusal}
use Rattle.layout.proofs.Cases.{text, hex, run}
use Rattle.blocks.specs.Vendor.{pieces_in}
use Rattle.blocks.proofs.Cases.{offsets, zeros, varied, reversed, short, example, value, writing}
use Rattle.blocks.proofs.Cases.{Case, lies, numbers, sweeps, writes, unwrites, given, wanted}

abbrev pub cases : List Case
cases =
    -- ---- piece lengths in lent bytes: four bytes each, low byte first; a last one that is cut short counts as none
    lies [] []
    ∷ lies (hex "18") []
    ∷ lies (hex "18 00") []
    ∷ lies (hex "18 00 00") []
    ∷ lies (hex "18 00 00 00") (24 ∷ [])
    ∷ lies (hex "18 00 00 00 01") (24 ∷ [])
    ∷ lies (hex "17 00 00 00 01 00 00") (23 ∷ [])
    ∷ lies (hex "17 00 00 00 01 00 00 00") (23 ∷ 1 ∷ [])
    ∷ lies (hex "00 00 00 00 18 00 00 00 00 00 00 00") (0 ∷ 24 ∷ 0 ∷ [])
    ∷ lies (hex "01 02 03 04") (67305985 ∷ [])
    ∷ lies (hex "04 03 02 01 08 07 06 05") (16909060 ∷ 84281096 ∷ [])
    ∷ lies (hex "00 00 00 80") (2147483648 ∷ [])
    ∷ lies (hex "FF FF FF FF") (4294967295 ∷ [])
    ∷ lies (hex "FA 00 00 00 00 01 00 00 00 00 01 00 00 00 00 01 02") (250 ∷ 256 ∷ 65536 ∷ 16777216 ∷ [])
    -- as a write takes them: 003's two pieces, and one that is cut short and so missing
    ∷ numbers (writing 4 3 (text "DQ000MPW") (pieces_in (hex "17 00 00 00 01 00 00 00")) 34) 0
    ∷ numbers (writing 4 3 (text "DQ000MPW") (pieces_in (hex "17 00 00 00 01 00 00")) 34) 18
    ∷ numbers (writing 4 3 (text "DQ000MPW") (pieces_in (hex "18 00 00 00 01 00 00")) 34) 0
    ∷ numbers (writing 4 3 (text "DQ000MPW") (pieces_in (hex "FF FF FF FF 19 00 00 00")) 40) 18
    -- ---- a serial, offsets and pieces: a piece of no bytes is the prefix alone
    ∷ writes 4 3 [] zeros (16 ∷ []) (replicate 21 7) (Ok 21) (value (hex "00 00 09 00 00 00 00 00 00 00 00 00 87 C0 ED A5"))
    ∷ writes 4 3 [] varied (16 ∷ []) (replicate 21 7) (Ok 21) (value short)
    ∷ writes 4 3 (text "A") reversed (16 ∷ 1 ∷ []) (replicate 27 7) (Ok 27) (value (hex "01 41 00 09 00 9C 18 FF FE 81 80 7F 01 D1 9F E6") ++ value (hex "C4"))
    ∷ writes 4 3 (hex "00 FF 7F") (offsets (pos 1) (pos 2) (pos 3) (pos 4) (pos 5) (pos 6) (pos 7) (pos 8)) (6 ∷ 9 ∷ 4 ∷ []) (replicate 34 7) (Ok 34) (value (hex "03 00 FF 7F 00 09") ++ value (hex "00 01 02 03 04 05 06 07 08") ++ value (hex "0B 63 87 DB"))
    ∷ writes 4 3 [] varied (0 ∷ 16 ∷ 0 ∷ []) (replicate 31 7) (Ok 31) (value [] ++ value short ++ value [])
    ∷ writes 4 3 [] varied (2 ∷ 2 ∷ 2 ∷ 2 ∷ 2 ∷ 2 ∷ 2 ∷ 2 ∷ []) (replicate 56 7) (Ok 56) (value (hex "00 00") ++ value (hex "09 00") ++ value (hex "01 7F") ++ value (hex "80 81") ++ value (hex "FE FF") ++ value (hex "18 9C") ++ value (hex "60 FF") ++ value (hex "D2 4C"))
    ∷ writes 4 3 (text "DQ000MPW") varied (1 ∷ 23 ∷ []) (replicate 34 7) (Ok 34) (value (hex "08") ++ value (hex "44 51 30 30 30 4D 50 57 00 09 00 01 7F 80 81 FE FF 18 9C E5 5F 6E A2"))
    -- ---- the output: just enough, longer (the bytes past the values stay), one short, none
    ∷ writes 4 3 (text "DQ000MPW") zeros (24 ∷ []) (replicate 29 7) (Ok 29) (value example)
    ∷ writes 4 3 (text "DQ000MPW") zeros (24 ∷ []) (replicate 30 7) (Ok 29) (value example ++ hex "07")
    ∷ writes 4 3 (text "DQ000MPW") zeros (23 ∷ 1 ∷ []) (replicate 36 7) (Ok 34) (value (hex "08 44 51 30 30 30 4D 50 57 00 09 00 00 00 00 00 00 00 00 00 02 60 51") ++ value (hex "4B") ++ hex "07 07")
    ∷ writes 4 3 [] varied (16 ∷ []) (hex "00 01 02 03 04 05 06 07 08 09 0A 0B 0C 0D 0E 0F 10 11 12 13 14 15 16") (Ok 21) (hex "00 00 1F 79 00 00 00 09 00 01 7F 80 81 FE FF 18 9C 60 FF D2 4C 15 16")
    ∷ writes 4 3 [] varied (16 ∷ []) (hex "00 01 02 03 04 05 06 07 08 09 0A 0B 0C 0D 0E 0F 10 11 12 13") (Err (refusal 12 0)) (hex "00 01 02 03 04 05 06 07 08 09 0A 0B 0C 0D 0E 0F 10 11 12 13")
    ∷ unwrites 4 3 (text "DQ000MPW") zeros (24 ∷ []) 28 (refusal 12 0)
    ∷ unwrites 4 3 (text "DQ000MPW") zeros (24 ∷ []) 0 (refusal 12 0)
    ∷ unwrites 4 3 (text "DQ000MPW") zeros (23 ∷ 1 ∷ []) 33 (refusal 12 0)
    ∷ unwrites 4 3 (text "DQ000MPW") zeros (0 ∷ 24 ∷ []) 33 (refusal 12 0)
    ∷ unwrites 4 3 (text "DQ000MPW") zeros (24 ∷ 0 ∷ 0 ∷ []) 38 (refusal 12 0)
    -- ---- 18: pieces that don't sum to the payload, no pieces; before 12
    ∷ unwrites 4 3 (text "DQ000MPW") zeros (25 ∷ []) 40 (refusal 18 0)
    ∷ unwrites 4 3 (text "DQ000MPW") zeros (23 ∷ []) 40 (refusal 18 0)
    ∷ unwrites 4 3 (text "DQ000MPW") zeros (23 ∷ 2 ∷ []) 40 (refusal 18 0)
    ∷ unwrites 4 3 (text "DQ000MPW") zeros (22 ∷ 1 ∷ []) 40 (refusal 18 0)
    ∷ unwrites 4 3 (text "DQ000MPW") zeros (29 ∷ []) 40 (refusal 18 0)
    ∷ unwrites 4 3 (text "DQ000MPW") zeros (28 ∷ 1 ∷ []) 40 (refusal 18 0)
    ∷ unwrites 4 3 (text "DQ000MPW") zeros (0 ∷ []) 40 (refusal 18 0)
    ∷ unwrites 4 3 (text "DQ000MPW") zeros [] 40 (refusal 18 0)
    ∷ unwrites 4 3 (text "DQ000MPW") zeros (250 ∷ 30 ∷ []) 400 (refusal 18 0)
    ∷ unwrites 4 3 (text "DQ000MPW") zeros (25 ∷ []) 0 (refusal 18 0)
    ∷ unwrites 4 3 (text "DQ000MPW") zeros [] 0 (refusal 18 0)
    ∷ unwrites 4 3 (text "DQ000MPW") zeros (4294967295 ∷ 25 ∷ []) 0 (refusal 18 0)
    ∷ unwrites 4 3 (text "DQ000MPW") zeros (4294967295 ∷ 25 ∷ []) 40 (refusal 18 0)
    ∷ unwrites 4 3 (text "DQ000MPW") zeros (18446744073709551615 ∷ 25 ∷ []) 40 (refusal 18 0)
    ∷ unwrites 4 3 (text "DQ000MPW") zeros (replicate 262 250 ++ (60 ∷ [])) 40 (refusal 18 0)
    ∷ unwrites 4 3 [] zeros (15 ∷ []) 40 (refusal 18 0)
    ∷ unwrites 4 3 [] zeros (17 ∷ []) 40 (refusal 18 0)
    ∷ unwrites 4 3 [] zeros [] 40 (refusal 18 0)
    -- a serial of 255 bytes in pieces of 250 and 21; one of 256
    ∷ writes 4 3 (hex "FF FF FF 00" ++ replicate 251 0) zeros (250 ∷ 21 ∷ []) (replicate 283 7) (Ok 281) (value (hex "FF FF FF FF 00" ++ replicate 245 0) ++ value (replicate 6 0 ++ hex "00 09 00 00 00 00 00 00 00 00 00 03 EA D4 35") ++ hex "07 07")
    ∷ unwrites 4 3 (replicate 255 0x41) zeros (250 ∷ 21 ∷ []) 280 (refusal 12 0)
    ∷ unwrites 4 3 (replicate 256 0x41) zeros (250 ∷ 22 ∷ []) 300 (refusal 18 0)
    ∷ unwrites 4 3 (replicate 256 0x41) zeros (100 ∷ 100 ∷ 72 ∷ []) 0 (refusal 18 0)
    -- a piece of 250 bytes, and of 251
    ∷ numbers (writing 4 3 (replicate 234 0) (250 ∷ []) 254) 12
    ∷ numbers (writing 4 3 (replicate 234 0) (250 ∷ []) 255) 0
    ∷ unwrites 4 3 (replicate 235 0) zeros (251 ∷ []) 300 (refusal 18 0)
    ∷ unwrites 4 3 (replicate 235 0) zeros (251 ∷ []) 0 (refusal 18 0)
    ∷ unwrites 4 3 (replicate 236 0) zeros (1 ∷ 251 ∷ []) 300 (refusal 18 0)
    ∷ numbers (writing 4 3 (replicate 235 0) (250 ∷ 1 ∷ []) 260) 12
    ∷ numbers (writing 4 3 (replicate 235 0) (1 ∷ 250 ∷ []) 261) 0
    -- ---- 16 for any format but 4, whatever the edition; 1; 16 for editions 1 and 2; before 2
    ∷ unwrites 0 3 (text "DQ000MPW") zeros (24 ∷ []) 29 (refusal 16 0)
    ∷ unwrites 0 9 (text "DQ000MPW") zeros (24 ∷ []) 29 (refusal 16 0)
    ∷ unwrites 1 3 (text "DQ000MPW") zeros (24 ∷ []) 29 (refusal 16 0)
    ∷ unwrites 1 9 (text "DQ000MPW") zeros (24 ∷ []) 29 (refusal 16 0)
    ∷ unwrites 2 3 (text "DQ000MPW") zeros (24 ∷ []) 29 (refusal 16 0)
    ∷ unwrites 2 9 (text "DQ000MPW") zeros (24 ∷ []) 29 (refusal 16 0)
    ∷ unwrites 3 3 (text "DQ000MPW") zeros (24 ∷ []) 29 (refusal 16 0)
    ∷ unwrites 3 9 (text "DQ000MPW") zeros (24 ∷ []) 29 (refusal 16 0)
    ∷ unwrites 5 3 (text "DQ000MPW") zeros (24 ∷ []) 29 (refusal 16 0)
    ∷ unwrites 5 9 (text "DQ000MPW") zeros (24 ∷ []) 29 (refusal 16 0)
    ∷ unwrites 260 3 (text "DQ000MPW") zeros (24 ∷ []) 29 (refusal 16 0)
    ∷ unwrites 260 9 (text "DQ000MPW") zeros (24 ∷ []) 29 (refusal 16 0)
    ∷ unwrites 1 0 (text "DQ000MPW") zeros (24 ∷ []) 29 (refusal 16 0)
    ∷ unwrites 3 0 (text "DQ000MPW") zeros (24 ∷ []) 29 (refusal 16 0)
    ∷ unwrites 5 0 (text "DQ000MPW") zeros (24 ∷ []) 29 (refusal 16 0)
    ∷ unwrites 4 0 (text "DQ000MPW") zeros (24 ∷ []) 29 (refusal 1 0)
    ∷ unwrites 4 5 (text "DQ000MPW") zeros (24 ∷ []) 29 (refusal 1 0)
    ∷ unwrites 4 9 (text "DQ000MPW") zeros (24 ∷ []) 29 (refusal 1 0)
    ∷ unwrites 4 259 (text "DQ000MPW") zeros (24 ∷ []) 29 (refusal 1 0)
    ∷ unwrites 4 1 (text "DQ000MPW") zeros (24 ∷ []) 29 (refusal 16 0)
    ∷ unwrites 4 2 (text "DQ000MPW") zeros (24 ∷ []) 29 (refusal 16 0)
    ∷ sweeps 300 (λ f. writing f 3 [] [] 0) 18 (4 ∷ [])
    ∷ sweeps 300 (λ f. writing f 3 [] [] 0) 16 (run 0 3 ++ run 5 299)
    ∷ sweeps 300 (λ f. writing f 9 [] [] 0) 1 (4 ∷ [])
    ∷ sweeps 300 (λ f. writing f 9 [] [] 0) 16 (run 0 3 ++ run 5 299)
    ∷ sweeps 300 (λ e. writing 4 e [] [] 0) 18 (3 ∷ 4 ∷ [])
    ∷ sweeps 300 (λ e. writing 4 e [] [] 0) 16 (1 ∷ 2 ∷ [])
    ∷ sweeps 300 (λ e. writing 4 e [] [] 0) 1 (0 ∷ run 5 299)
    ∷ numbers (writing 3 3 (text "DQ000MPW") [] 65537) 16
    ∷ numbers (writing 5 9 (text "DQ000MPW") [] 65537) 16
    ∷ numbers (writing 4 9 (text "DQ000MPW") [] 65537) 1
    ∷ numbers (writing 4 2 (text "DQ000MPW") [] 65537) 16
    -- ---- 2: an output of 65,537 bytes, before 18
    ∷ unwrites 4 3 (text "DQ000MPW") zeros [] 65537 (refusal 2 0)
    ∷ numbers (writing 4 3 (text "DQ000MPW") [] 65536) 18
    ∷ []

pub every-case : map given cases ≡ map wanted cases
unfolding given
every-case = refl
