-- Worked cases of a record in lent bytes, by edition, and of the words of a walk, as one statement over a list.
-- Assumes nothing.
use Prim.Native.Nat.{ℕ}
use mathlib.Core.Path.{◌≡◌, refl}
use mathlib.Core.List.{List, [], ◌∷◌, ◌++◌, map}
use lib.ListN.{replicate}
use Rattle.layout.specs.declared.Entry.{Entry}
use Rattle.layout.specs.declared.Reading.TheVariants.{Plain, Timed}
use Rattle.layout.specs.Bytes.{place, part_at}
use Rattle.layout.specs.Calendar.{date, time}
use Rattle.layout.specs.Calls.{told_reading}
use Rattle.layout.proofs.Cases.{hex}
use Rattle.records.specs.Words.{words_bytes, record_bytes, records_bytes}
use Rattle.records.specs.Exports.{walk_format, walk_edition, walk_entry}

-- the record of 01's SKU image: the frame 01 03 53 4B 55 02 41 37 at 0
abbrev pub sku : Entry
sku = record { code = 0x01; kind = 513; place = place 0; size = 8; key = part_at 2 3; value = part_at 6 2; reading = Plain }

-- a record in which each byte of each word is another
abbrev pub each : Entry
each =
    record {
      code = 0x04030201;
      kind = 0x08070605;
      place = place 0x0C0B0A09;
      size = 0x201F1E1D;
      key = part_at 0x100F0E0D 0x14131211;
      value = part_at 0x18171615 0x1C1B1A19;
      reading = Timed (date 0x24232221 0x28272625 0x2C2B2A29) (time 0x302F2E2D 0x34333231 0x38373635);
    }

-- a question, with the bytes or numbers that it must have for an answer
pub data Case : Type 0 where
  -- the records of entries for an edition
  records : (edition : ℕ) (entries : List Entry) (bytes : List ℕ) → Case
  -- format, edition and entry number of a walk in lent bytes
  walks : (walk numbers : List ℕ) → Case

unfoldable pub given : Case → List ℕ
unfolding told_reading words_bytes record_bytes records_bytes
given (records e xs bytes) = records_bytes e xs
given (walks w numbers) = walk_format w ∷ walk_edition w ∷ walk_entry w ∷ []

abbrev pub wanted : Case → List ℕ
wanted (records e xs bytes) = bytes
wanted (walks w numbers) = numbers

-- the first seven words of the SKU entry, and its reading
abbrev pub sku_front : List ℕ
sku_front = hex "01 00 00 00 01 02 00 00 00 00 00 00 02 00 00 00 03 00 00 00 06 00 00 00 02 00 00 00"

abbrev pub each_front : List ℕ
each_front = hex "01 02 03 04 05 06 07 08 09 0A 0B 0C 0D 0E 0F 10 11 12 13 14 15 16 17 18 19 1A 1B 1C"

-- reading 9 and what it carries; the last word is 0
abbrev pub each_back : List ℕ
each_back = hex "09 00 00 00 21 22 23 24 25 26 27 28 29 2A 2B 2C 2D 2E 2F 30 31 32 33 34 35 36 37 38 00 00 00 00"

abbrev pub cases : List Case
cases =
    -- ---- word 7 is 0 up to edition 3, and the length of the frame from edition 4 on; all other words are the same
    records 1 (sku ∷ []) (sku_front ++ hex "00 00 00 00" ++ replicate 32 0)
    ∷ records 2 (sku ∷ []) (sku_front ++ hex "00 00 00 00" ++ replicate 32 0)
    ∷ records 3 (sku ∷ []) (sku_front ++ hex "00 00 00 00" ++ replicate 32 0)
    ∷ records 4 (sku ∷ []) (sku_front ++ hex "08 00 00 00" ++ replicate 32 0)
    ∷ records 3 (each ∷ []) (each_front ++ hex "00 00 00 00" ++ each_back)
    ∷ records 4 (each ∷ []) (each_front ++ hex "1D 1E 1F 20" ++ each_back)
    -- records one after another, and none
    ∷ records 3 (each ∷ sku ∷ []) (each_front ++ hex "00 00 00 00" ++ each_back ++ sku_front ++ hex "00 00 00 00" ++ replicate 32 0)
    ∷ records 4 (sku ∷ each ∷ []) (sku_front ++ hex "08 00 00 00" ++ replicate 32 0 ++ each_front ++ hex "1D 1E 1F 20" ++ each_back)
    ∷ records 4 [] []
    -- ---- a walk: format, edition, entry number in two words; one that is cut short is read as format 0
    ∷ walks (hex "02 00 00 00 04 00 00 00 07 00 00 00 00 00 00 00") (2 ∷ 4 ∷ 7 ∷ [])
    ∷ walks (hex "01 02 03 04 05 06 07 08 09 00 00 00 01 00 00 00 FF") (0x04030201 ∷ 0x08070605 ∷ 0x100000009 ∷ [])
    ∷ walks (hex "02 00 00 00 04 00 00 00 07 00 00 00 00 00 00") (0 ∷ 0 ∷ 0 ∷ [])
    ∷ []

pub every-case : map given cases ≡ map wanted cases
unfolding given
every-case = refl
