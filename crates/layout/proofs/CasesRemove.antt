-- Worked cases of removals, as one statement over a list (02, "Add and remove fields").
-- Assumes nothing.
use Prim.Native.Nat.{ℕ}
use mathlib.Core.Path.{◌≡◌, refl}
use mathlib.Core.List.{List, [], ◌∷◌, ◌++◌, map}
use lib.ListN.{replicate}
use Rattle.std.specs.Prelude.{Ok}
use Rattle.layout.specs.Bytes.{refusal}
use Rattle.layout.specs.Remove.{remove_entry}
use Rattle.layout.proofs.Cases.{hex, fboss_of, five, with_block, sku, two_names, three_bytes, no_tags, onie_of, no_entries, made_number}
use Rattle.layout.proofs.Cases.{Case, sweeps, removes, unremoves, given, wanted}
use Rattle.layout.proofs.CasesEdit.{sku_and_feh, batch_and_pool, all_tags}
use Rattle.layout.proofs.CasesOnie.{board}

-- the number of a removal into no bytes: 12 where nothing is wrong with it
abbrev pub removing : ℕ → ℕ → List ℕ → ℕ → ℕ
removing f e image n = made_number (remove_entry f e image n []).answer

-- the five required entries, a text, and an address block, which edition 1 does not name
abbrev pub text_and_block : List ℕ
text_and_block = fboss_of (five ++ hex "0C 01 41 11 08 02 00 00 00 00 01 00 08") 0x4EB8

abbrev pub cases : List Case
cases =
    -- the last, the first and one in the middle
    removes 2 1 sku 0 (replicate 3 7) (Ok 1) (hex "00 FF FF")
    ∷ removes 2 2 sku_and_feh 1 (replicate 10 7) (Ok 9) (hex "01 03 53 4B 55 02 41 37 00 FF")
    ∷ removes 2 1 sku_and_feh 0 (replicate 10 7) (Ok 10) (hex "FE 80 01 41 04 01 02 03 04 00")
    ∷ removes 2 2 two_names 0 (replicate 9 7) (Ok 9) (hex "01 80 02 00 22 80 01 41 00")
    ∷ removes 1 2 with_block 5 (replicate 24 7) (Ok 23) (fboss_of five 0x4826 ++ hex "FF")
    ∷ removes 1 1 text_and_block 5 (replicate 33 7) (Ok 33) with_block
    ∷ removes 3 1 batch_and_pool 1 (replicate 13 7) (Ok 13) (hex "56 02 0D 80 00 01 02 03 04 05 34 12 CB")
    ∷ removes 3 2 batch_and_pool 0 (replicate 11 7) (Ok 10) (hex "56 02 0A 01 04 41 C2 C3 44 82 FF")
    ∷ removes 3 1 all_tags 2 (replicate 17 7) (Ok 17) (hex "56 02 11 10 02 11 0F 61 00 01 02 03 04 05 01 00 ED")
    ∷ removes 3 1 (hex "56 02 07 01 01 C1 8F") 0 (replicate 4 7) (Ok 4) no_tags
    ∷ removes 4 3 (onie_of (hex "21 01 41") (hex "D5 F1 23 CB")) 0 (replicate 17 7) (Ok 17) no_entries
    ∷ removes 4 4 (onie_of (hex "FD 04 01 02 03 04 FD 04 01 02 03 04") (hex "97 75 CD F4")) 0 (replicate 24 7) (Ok 23) (onie_of (hex "FD 04 01 02 03 04") (hex "CA A5 33 49") ++ hex "FF")
    -- 16, 1 and 2, then the image's own; 13 at 0; 14 at the entry, before 11 and 12; 11 at 0, before 12; 12 at 0
    ∷ unremoves 0 1 sku 0 3 (refusal 16 0)
    ∷ unremoves 4 2 no_entries 0 3 (refusal 16 0)
    ∷ unremoves 2 5 sku 0 3 (refusal 1 0)
    ∷ unremoves 1 1 [] 0 65537 (refusal 2 0)
    ∷ unremoves 1 1 (replicate 65537 0) 0 0 (refusal 2 0)
    ∷ unremoves 1 1 (fboss_of five 0x4827) 9 3 (refusal 10 21)
    ∷ unremoves 2 2 three_bytes 0 3 (refusal 7 0)
    ∷ unremoves 2 2 sku 1 10 (refusal 13 0)
    ∷ unremoves 3 1 no_tags 0 10 (refusal 13 0)
    ∷ unremoves 2 1 sku_and_feh 1 0 (refusal 14 8)
    ∷ unremoves 1 1 with_block 5 0 (refusal 14 19)
    ∷ unremoves 3 1 batch_and_pool 0 30 (refusal 14 3)
    ∷ unremoves 4 3 board 2 99 (refusal 14 18)
    ∷ unremoves 1 1 with_block 0 99 (refusal 11 0)
    ∷ unremoves 1 2 with_block 4 0 (refusal 11 0)
    ∷ sweeps 8 (removing 1 1 text_and_block) 11 (0 ∷ 1 ∷ 2 ∷ 3 ∷ 4 ∷ [])
    ∷ sweeps 8 (removing 1 1 text_and_block) 12 (5 ∷ [])
    ∷ sweeps 8 (removing 1 2 text_and_block) 12 (5 ∷ 6 ∷ [])
    ∷ unremoves 2 1 sku 0 0 (refusal 12 0)
    ∷ unremoves 3 1 batch_and_pool 1 12 (refusal 12 0)
    ∷ unremoves 4 3 (onie_of (hex "21 01 41") (hex "D5 F1 23 CB")) 0 16 (refusal 12 0)
    ∷ []

pub every-case : map given cases ≡ map wanted cases
unfolding given
every-case = refl
