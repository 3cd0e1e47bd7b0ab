-- Worked cases of what every call shares: formats and editions, the limit, lent records, and what an answer says, as one statement over a list.
-- Assumes nothing.
use Prim.Native.Nat.{ℕ}
use mathlib.Core.Path.{◌≡◌, refl}
use mathlib.Core.List.{List, [], ◌∷◌, map}
use lib.ListN.{replicate}
use Rattle.std.specs.Prelude.{Ok}
use Rattle.layout.specs.declared.Part.{Part}
use Rattle.layout.specs.declared.Reading.TheVariants.{Plain, Text, Number, Addresses, Numbered, Tests, Identified, Batched, Dated, Timed}
use Rattle.layout.specs.declared.Entry.{Entry}
use Rattle.layout.specs.Bytes.{part_at, string_number, refusal}
use Rattle.layout.specs.Calendar.{date, time}
use Rattle.layout.specs.Calls.{Told, told_refusal, told, told_checked, told_lookup, told_located}
use Rattle.layout.specs.Write.{told_made}
use Rattle.layout.proofs.Cases.{text, hex, run, sku, three_bytes, no_tags, named, keyed, old, older, refuses, misses, nowhere, unwritten, checking}
use Rattle.layout.proofs.Cases.{Case, checks, sweeps, fills, entries, finds, values, steps, says, tells, settles, shows, given, wanted}

-- the record of the SKU image, as every edition lists it
abbrev pub sku_entry : Entry
sku_entry = keyed 0x01 513 0 8 2 3 6 2

-- number, place, count, part and entries of an answer
abbrev pub saying : ℕ → ℕ → ℕ → Part → List Entry → Told
saying number p n x es = record { number = number; place = p; count = n; part = x; given = es }

abbrev pub cases : List Case
cases =
    -- ---- 16 and 1: a number that is no format's before an unknown edition, and that before an edition that does not have the format; both at full width
    checks 0 1 no_tags (refuses 16 0)
    ∷ checks 1 1 (hex "00") (refuses 3 0)
    ∷ checks 2 1 (hex "00") (Ok 0)
    ∷ checks 3 1 no_tags (Ok 0)
    ∷ checks 4 1 no_tags (refuses 16 0)
    ∷ checks 4 2 [] (refuses 16 0)
    ∷ checks 4 3 [] (refuses 3 0)
    ∷ checks 4 0 [] (refuses 1 0)
    ∷ checks 4 4 [] (refuses 3 0)
    ∷ checks 4 5 [] (refuses 1 0)
    ∷ checks 4 9 [] (refuses 1 0)
    ∷ checks 5 3 [] (refuses 16 0)
    ∷ checks 5 4 [] (refuses 16 0)
    ∷ checks 5 5 [] (refuses 16 0)
    ∷ checks 5 9 [] (refuses 16 0)
    ∷ checks 0 9 [] (refuses 16 0)
    ∷ checks 260 3 [] (refuses 16 0)
    ∷ checks 257 1 [] (refuses 16 0)
    ∷ checks 258 1 (hex "00") (refuses 16 0)
    ∷ checks 1 0 [] (refuses 1 0)
    ∷ checks 1 4 [] (refuses 3 0)
    ∷ checks 1 5 [] (refuses 1 0)
    ∷ checks 2 0 (hex "00") (refuses 1 0)
    ∷ checks 2 4 (hex "00") (Ok 0)
    ∷ checks 2 5 (hex "00") (refuses 1 0)
    ∷ checks 3 0 no_tags (refuses 1 0)
    ∷ checks 3 1 no_tags (Ok 0)
    ∷ checks 3 2 no_tags (Ok 0)
    ∷ checks 3 3 no_tags (Ok 0)
    ∷ checks 3 4 no_tags (Ok 0)
    ∷ checks 3 5 no_tags (refuses 1 0)
    ∷ checks 3 257 no_tags (refuses 1 0)
    ∷ sweeps 300 (λ f. checking f 1 (hex "00")) 0 (2 ∷ [])
    ∷ sweeps 300 (λ f. checking f 2 (hex "00")) 3 (1 ∷ 3 ∷ [])
    ∷ sweeps 300 (λ f. checking f 3 (hex "00")) 0 (2 ∷ [])
    ∷ sweeps 300 (λ f. checking f 3 (hex "00")) 3 (1 ∷ 3 ∷ 4 ∷ [])
    ∷ sweeps 300 (λ f. checking f 1 (hex "00")) 16 (0 ∷ run 4 299)
    ∷ sweeps 300 (λ f. checking f 2 (hex "00")) 16 (0 ∷ run 4 299)
    ∷ sweeps 300 (λ f. checking f 3 (hex "00")) 16 (0 ∷ run 5 299)
    ∷ sweeps 300 (λ f. checking f 4 (hex "00")) 0 (2 ∷ [])
    ∷ sweeps 300 (λ f. checking f 4 (hex "00")) 3 (1 ∷ 3 ∷ 4 ∷ [])
    ∷ sweeps 300 (λ f. checking f 4 (hex "00")) 16 (0 ∷ run 5 299)
    ∷ sweeps 300 (λ f. checking f 5 (hex "00")) 1 (run 1 4)
    ∷ sweeps 300 (λ f. checking f 5 (hex "00")) 16 (0 ∷ run 5 299)
    ∷ sweeps 300 (λ e. checking 1 e []) 3 (run 1 4)
    ∷ sweeps 300 (λ e. checking 2 e (hex "00")) 0 (run 1 4)
    ∷ sweeps 300 (λ e. checking 2 e (hex "00")) 1 (0 ∷ run 5 299)
    ∷ sweeps 300 (λ e. checking 3 e no_tags) 0 (run 1 4)
    ∷ sweeps 300 (λ e. checking 4 e []) 3 (3 ∷ 4 ∷ [])
    ∷ sweeps 300 (λ e. checking 4 e []) 16 (1 ∷ 2 ∷ [])
    ∷ sweeps 300 (λ e. checking 4 e []) 1 (0 ∷ run 5 299)
    -- the same of every call
    ∷ fills 0 1 sku (old ∷ []) (refuses 16 0) (old ∷ [])
    ∷ fills 2 5 sku (old ∷ []) (refuses 1 0) (old ∷ [])
    ∷ finds 4 1 sku 0 (misses 16 0)
    ∷ finds 4 5 sku 0 (misses 1 0)
    ∷ finds 2 0 sku 0 (misses 1 0)
    ∷ values 4 1 sku 0 (nowhere 16 0) []
    ∷ values 4 5 sku 0 (nowhere 1 0) []
    ∷ values 2 0 sku 0 (nowhere 1 0) []
    ∷ steps 4 1 0 sku (misses 16 0) 0
    ∷ steps 4 0 0 sku (misses 1 0) 0
    ∷ steps 2 5 5 sku (misses 1 0) 5
    ∷ entries 2 5 sku []
    ∷ entries 2 4 sku (sku_entry ∷ [])
    -- ---- 2: one byte too many, and before 3
    ∷ checks 1 1 (replicate 65537 0) (refuses 2 0)
    ∷ checks 1 1 (replicate 65536 0) (refuses 3 0)
    -- ---- the list: as many records as entries, more, or fewer (12); a refusal leaves the records
    ∷ fills 2 2 sku [] (refuses 12 0) []
    ∷ fills 2 2 sku (old ∷ []) (Ok 1) (sku_entry ∷ [])
    ∷ fills 2 3 sku (old ∷ older ∷ []) (Ok 1) (sku_entry ∷ older ∷ [])
    ∷ fills 2 4 sku (old ∷ older ∷ []) (Ok 1) (sku_entry ∷ older ∷ [])
    ∷ fills 2 1 sku (old ∷ older ∷ []) (Ok 1) (sku_entry ∷ older ∷ [])
    ∷ fills 2 1 sku (old ∷ older ∷ old ∷ []) (Ok 1) (sku_entry ∷ older ∷ old ∷ [])
    ∷ fills 2 1 (hex "00") (old ∷ []) (Ok 0) (old ∷ [])
    ∷ fills 3 1 no_tags [] (Ok 0) []
    ∷ fills 2 1 (hex "01 01 41 00 01 01 42 00 00") (old ∷ []) (refuses 12 0) (old ∷ [])
    ∷ fills 2 1 (hex "01 01 41 00 01 01 42 00 00") (old ∷ older ∷ []) (Ok 2) (keyed 0x01 513 0 4 2 1 4 0 ∷ keyed 0x01 513 4 4 6 1 8 0 ∷ [])
    ∷ fills 2 2 three_bytes (old ∷ older ∷ []) (refuses 7 0) (old ∷ older ∷ [])
    -- ---- what an answer says: number, place, count, part and entries. Readings
    ∷ says Plain (0 ∷ [])
    ∷ says Text (1 ∷ [])
    ∷ says (Number 0) (2 ∷ 0 ∷ [])
    ∷ says (Number 255) (2 ∷ 255 ∷ [])
    ∷ says (Addresses 0 0) (3 ∷ 0 ∷ 0 ∷ 0 ∷ [])
    ∷ says (Addresses 0x0000FFFFFFFF 1) (3 ∷ 0 ∷ 0xFFFFFFFF ∷ 1 ∷ [])
    ∷ says (Addresses 0x000100000000 258) (3 ∷ 1 ∷ 0 ∷ 258 ∷ [])
    ∷ says (Addresses 0x0123456789AB 65535) (3 ∷ 0x0123 ∷ 0x456789AB ∷ 65535 ∷ [])
    ∷ says (Addresses 0xFFFFFFFFFFFF 8) (3 ∷ 0xFFFF ∷ 0xFFFFFFFF ∷ 8 ∷ [])
    ∷ says (Numbered (string_number 9)) (4 ∷ 9 ∷ [])
    ∷ says (Tests 0x3B 3) (5 ∷ 0x3B ∷ 3 ∷ [])
    ∷ says (Identified (named 10 11 12 13 14 15)) (6 ∷ 10 ∷ 11 ∷ 12 ∷ 13 ∷ 14 ∷ 15 ∷ [])
    ∷ says (Batched (named 10 11 12 13 14 15) 9999) (7 ∷ 10 ∷ 11 ∷ 12 ∷ 13 ∷ 14 ∷ 15 ∷ 9999 ∷ [])
    ∷ says (Dated (date 2024 2 29)) (8 ∷ 2024 ∷ 2 ∷ 29 ∷ [])
    ∷ says (Timed (date 2024 2 29) (time 23 59 58)) (9 ∷ 2024 ∷ 2 ∷ 29 ∷ 23 ∷ 59 ∷ 58 ∷ [])
    -- a refusal has zero counts, an empty part at 0 and no entry
    ∷ tells (told_refusal (refusal 7 19)) (saying 7 19 0 (part_at 0 0) [])
    ∷ tells (told_checked (refuses 10 21)) (saying 10 21 0 (part_at 0 0) [])
    ∷ tells (told_lookup (misses 13 0)) (saying 13 0 0 (part_at 0 0) [])
    ∷ tells (told_located (nowhere 15 0)) (saying 15 0 0 (part_at 0 0) [])
    ∷ tells (told_made (unwritten 14 2)) (saying 14 2 0 (part_at 0 0) [])
    -- what is not refused has number 0 and place 0
    ∷ tells (told 5 (part_at 6 7) (old ∷ older ∷ [])) (saying 0 0 5 (part_at 6 7) (old ∷ older ∷ []))
    ∷ tells (told_checked (Ok 5)) (saying 0 0 5 (part_at 0 0) [])
    ∷ tells (told_lookup (Ok sku_entry)) (saying 0 0 1 (part_at 0 0) (sku_entry ∷ []))
    ∷ tells (told_located (Ok (part_at 6 2))) (saying 0 0 2 (part_at 6 2) [])
    ∷ tells (told_made (Ok 23)) (saying 0 0 23 (part_at 0 0) [])
    -- a part and its twin: the bytes, and the number and place
    ∷ shows (text "ABCDEF") (Ok (part_at 2 3)) (text "CDE")
    ∷ shows (text "ABCDEF") (Ok (part_at 0 6)) (text "ABCDEF")
    ∷ shows (text "ABCDEF") (Ok (part_at 6 0)) []
    ∷ shows (text "ABCDEF") (nowhere 13 0) []
    ∷ settles (Ok (part_at 6 2)) (refusal 0 0)
    ∷ settles (nowhere 6 4) (refusal 6 4)
    ∷ []

pub every-case : map given cases ≡ map wanted cases
unfolding given
every-case = refl
