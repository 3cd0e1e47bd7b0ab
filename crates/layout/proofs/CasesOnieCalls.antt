-- Worked cases of the calls on ONIE images: editions, records, writes and edits, as one statement over a list (02, "ONIE images and edition 3", "Real calendar days").
-- Assumes nothing.
use Prim.Native.Nat.{ℕ}
use mathlib.Core.Path.{◌≡◌, refl}
use mathlib.Core.List.{List, [], ◌∷◌, ◌++◌, map}
use lib.ListN.{replicate}
use Rattle.std.specs.Prelude.{Ok}
use Rattle.layout.specs.declared.Reading.TheVariants.{Plain, Text, Number, Addresses, Timed}
use Rattle.layout.specs.declared.Entry.{Entry}
use Rattle.layout.specs.declared.Field.{Field}
use Rattle.layout.specs.Bytes.{part_at, refusal}
use Rattle.layout.specs.Calendar.{date, time}
use Rattle.layout.specs.Write.{write_image}
use Rattle.layout.specs.Edit.{edit_entry}
use Rattle.layout.proofs.Cases.{text, hex, run, headed, onie_as, onie_of, no_entries, bare, field, keyed_field, refuses, misses, nowhere, unwritten}
use Rattle.layout.proofs.Cases.{old, older, saying_bare, made_number, checking}
use Rattle.layout.proofs.Cases.{Case, checks, numbers, sweeps, lists, fills, entries, finds, values, strings, steps}
use Rattle.layout.proofs.Cases.{writes, edits, unwrites, unedits, rounds, given, wanted}
use Rattle.layout.proofs.CasesOnie.{board, block, longest, stamp}

-- an image with every code that edition 3 names, those beside them, and 003's example of a second FDh
abbrev pub every_code : List ℕ
every_code =
    onie_of (hex "21 06" ++ text "Switch" ++ hex "22 03" ++ text "P-1" ++ hex "23 02" ++ text "S1" ++ hex "24 06 01 23 45 67 89 AB 25 13" ++ text "12/31/2023 23:59:58" ++ hex "26 01 00 27 02 52 31 28 00 29 01 FF 2A 02 12 34 2B 00 2C 02 43 5A 2D 01 56 2E 01 7F 2F 00 FD 04 00 00 1F 79 20 01 09 FC 01 FE FD 06 00 00 1F 79 00 4B") (hex "44 41 5D 4D")

-- its records
abbrev pub every_record : List Entry
every_record =
    bare 0x21 1057 11 8 13 6 Text
    ∷ bare 0x22 1058 19 5 21 3 Text
    ∷ bare 0x23 1059 24 4 26 2 Text
    ∷ bare 0x24 1060 28 8 30 6 (Addresses 0x0123456789AB 1)
    ∷ bare 0x25 1061 36 21 38 19 (Timed (date 2023 12 31) (time 23 59 58))
    ∷ bare 0x26 0 57 3 59 1 Plain
    ∷ bare 0x27 0 60 4 62 2 Plain
    ∷ bare 0x28 0 64 2 66 0 Plain
    ∷ bare 0x29 0 66 3 68 1 Plain
    ∷ bare 0x2A 1066 69 4 71 2 (Number 0x1234)
    ∷ bare 0x2B 1067 73 2 75 0 Text
    ∷ bare 0x2C 1068 75 4 77 2 Text
    ∷ bare 0x2D 1069 79 3 81 1 Text
    ∷ bare 0x2E 0 82 3 84 1 Plain
    ∷ bare 0x2F 0 85 2 87 0 Plain
    ∷ bare 0xFD 1277 87 6 89 4 Plain
    ∷ bare 0x20 0 93 3 95 1 Plain
    ∷ bare 0xFC 0 96 3 98 1 Plain
    ∷ bare 0xFD 1277 99 8 101 6 Plain
    ∷ []

-- the records of the board
abbrev pub board_records : List Entry
board_records =
    bare 0x21 1057 11 3 13 1 Text
    ∷ bare 0x2A 1066 14 4 16 2 (Number 3)
    ∷ bare 0x99 0 18 4 20 2 Plain
    ∷ bare 0xFD 1277 22 6 24 4 Plain
    ∷ bare 0xFD 1277 28 6 30 4 Plain
    ∷ []

-- the values of the longest image, and its fields with n bytes for the last one
abbrev pub long_values : List ℕ
long_values = (hex "ED CF C7 EB") ++ replicate 251 0 ++ (hex "7D 70 10 8C") ++ replicate 251 0 ++ (hex "7A 5D A8 6B") ++ replicate 251 0

abbrev pub long_fields : ℕ → List Field
long_fields n =
    field 0xFD 0 255 ∷ field 0xFD 255 255 ∷ field 0xFD 255 255 ∷ field 0xFD 255 255 ∷ field 0xFD 255 255 ∷ field 0xFD 255 255 ∷ field 0xFD 255 255 ∷ field 0xFD 510 n ∷ []

-- the number of a write of those fields into so many bytes, 0 where nothing is refused
abbrev pub writing_long : ℕ → ℕ → ℕ
writing_long n room = made_number (write_image 4 3 (long_fields n) long_values (replicate room 0)).answer

-- the number of an edit of the last entry of the longest image to this value, into so many bytes, 0 where nothing is refused
abbrev pub editing_long : List ℕ → ℕ → ℕ
editing_long v room = made_number (edit_entry 4 3 longest 7 v (replicate room 0)).answer

abbrev pub cases : List Case
cases =
    -- ---- editions: 1 and 2 do not have the format (16), and 1 for an unknown one; before 2
    checks 4 0 no_entries (refuses 1 0)
    ∷ checks 4 1 no_entries (refuses 16 0)
    ∷ checks 4 2 no_entries (refuses 16 0)
    ∷ checks 4 3 no_entries (Ok 0)
    ∷ checks 4 4 no_entries (Ok 0)
    ∷ checks 4 5 no_entries (refuses 1 0)
    ∷ checks 4 9 no_entries (refuses 1 0)
    ∷ sweeps 300 (λ e. checking 4 e no_entries) 0 (3 ∷ 4 ∷ [])
    ∷ sweeps 300 (λ e. checking 4 e no_entries) 16 (1 ∷ 2 ∷ [])
    ∷ sweeps 300 (λ e. checking 4 e no_entries) 1 (0 ∷ run 5 299)
    ∷ sweeps 300 (λ f. checking f 3 no_entries) 0 (4 ∷ [])
    ∷ checks 4 2 (replicate 65537 0) (refuses 16 0)
    ∷ checks 4 3 (replicate 65537 0) (refuses 2 0)
    ∷ checks 4 3 (replicate 65536 0) (refuses 3 0)
    ∷ fills 4 2 board (old ∷ []) (refuses 16 0) (old ∷ [])
    ∷ fills 4 5 board (old ∷ []) (refuses 1 0) (old ∷ [])
    ∷ entries 4 2 board []
    ∷ entries 4 9 board []
    ∷ finds 4 1 board 0 (misses 16 0)
    ∷ finds 4 0 board 0 (misses 1 0)
    ∷ values 4 2 board 0 (nowhere 16 0) []
    ∷ values 4 9 board 0 (nowhere 1 0) []
    ∷ steps 4 2 3 board (misses 16 0) 3
    ∷ steps 4 5 3 board (misses 1 0) 3
    ∷ unwrites 4 1 (field 99 9 9 ∷ []) [] 3 (refusal 16 0)
    ∷ unwrites 4 2 [] [] 65537 (refusal 16 0)
    ∷ unwrites 4 0 (field 99 9 9 ∷ []) [] 3 (refusal 1 0)
    ∷ unwrites 4 5 [] [] 3 (refusal 1 0)
    ∷ unwrites 4 3 [] [] 65537 (refusal 2 0)
    ∷ unedits 4 1 board 0 [] 3 (refusal 16 0)
    ∷ unedits 4 2 board 0 [] 65537 (refusal 16 0)
    ∷ unedits 4 0 board 0 [] 3 (refusal 1 0)
    ∷ unedits 4 9 board 0 [] 3 (refusal 1 0)
    ∷ unedits 4 3 [] 0 [] 65537 (refusal 2 0)
    ∷ unedits 4 3 [] 0 [] 3 (refusal 3 0)
    -- a string is 16, whatever the edition
    ∷ strings 4 0 no_entries 0 (nowhere 16 0) []
    ∷ strings 4 1 no_entries 0 (nowhere 16 0) []
    ∷ strings 4 3 no_entries 0 (nowhere 16 0) []
    ∷ strings 4 9 [] 0 (nowhere 16 0) []
    -- ---- records: every code, an address block with each byte in its place, a number high byte first
    ∷ lists 4 3 every_code every_record
    ∷ lists 4 4 every_code every_record
    ∷ entries 4 3 board board_records
    ∷ finds 4 3 (onie_of (hex "24 06 FF FE FD FC FB FA") (hex "11 19 EB 26")) 0 (Ok (bare 0x24 1060 11 8 13 6 (Addresses 0xFFFEFDFCFBFA 1)))
    ∷ finds 4 3 (onie_of (hex "24 06 00 00 00 00 00 01") (hex "CF 2D 16 48")) 0 (Ok (bare 0x24 1060 11 8 13 6 (Addresses 1 1)))
    ∷ finds 4 3 (onie_of (hex "2A 02 FF FE") (hex "D6 7D 61 9F")) 0 (Ok (bare 0x2A 1066 11 4 13 2 (Number 65534)))
    ∷ finds 4 3 (onie_of (hex "2A 02 01 00") (hex "0F 9E 5E D1")) 0 (Ok (bare 0x2A 1066 11 4 13 2 (Number 256)))
    -- the list: as many records as entries, more, or fewer (12)
    ∷ fills 4 3 board (old ∷ older ∷ old ∷ older ∷ old ∷ older ∷ []) (Ok 5) (board_records ++ (older ∷ []))
    ∷ fills 4 3 board (old ∷ older ∷ old ∷ older ∷ []) (refuses 12 0) (old ∷ older ∷ old ∷ older ∷ [])
    ∷ fills 4 3 no_entries (old ∷ []) (Ok 0) (old ∷ [])
    ∷ fills 4 3 (onie_of (hex "21 01 7F") (hex "FB 04 EB 51")) (old ∷ []) (refuses 7 11) (old ∷ [])
    -- entry, value and step: the first, in the middle, the last and past it; a refused image
    ∷ finds 4 3 board 0 (Ok (bare 0x21 1057 11 3 13 1 Text))
    ∷ finds 4 3 (onie_of (hex "25 13" ++ text "01/02/0003 04:05:06") (hex "D2 04 35 0D")) 0 (Ok (bare 0x25 1061 11 21 13 19 (Timed (date 3 1 2) (time 4 5 6))))
    ∷ finds 4 3 board 2 (Ok (bare 0x99 0 18 4 20 2 Plain))
    ∷ finds 4 3 board 4 (Ok (bare 0xFD 1277 28 6 30 4 Plain))
    ∷ finds 4 3 board 5 (misses 13 0)
    ∷ finds 4 3 no_entries 0 (misses 13 0)
    ∷ finds 4 3 (headed 7 (hex "FE 04 00 00 00 00 00")) 0 (misses 5 9)
    ∷ values 4 3 board 0 (Ok (part_at 13 1)) (text "A")
    ∷ values 4 3 board 1 (Ok (part_at 16 2)) (hex "00 03")
    ∷ values 4 3 board 2 (Ok (part_at 20 2)) (hex "01 02")
    ∷ values 4 3 board 4 (Ok (part_at 30 4)) (hex "05 06 07 08")
    ∷ values 4 3 board 5 (nowhere 13 0) []
    ∷ values 4 3 (headed 7 (hex "FE 04 00 00 00 00 00")) 0 (nowhere 5 9) []
    ∷ steps 4 3 0 board (Ok (bare 0x21 1057 11 3 13 1 Text)) 1
    ∷ steps 4 4 1 board (Ok (bare 0x2A 1066 14 4 16 2 (Number 3))) 2
    ∷ steps 4 3 1 board (Ok (bare 0x2A 1066 14 4 16 2 (Number 3))) 2
    ∷ steps 4 3 4 board (Ok (bare 0xFD 1277 28 6 30 4 Plain)) 5
    ∷ steps 4 3 5 board (misses 13 0) 5
    ∷ steps 4 3 2 (headed 1 (hex "00")) (misses 6 11) 2
    -- ---- writes. No fields: one byte more than needed, just enough, one less
    ∷ writes 4 3 [] [] (replicate 18 7) (Ok 17) (hex "54 6C 76 49 6E 66 6F 00 01 00 06 FE 04 D4 43 1C 18 FF")
    ∷ writes 4 3 [] [] (replicate 17 7) (Ok 17) no_entries
    ∷ writes 4 3 [] [] (replicate 16 7) (unwritten 12 0) (replicate 16 7)
    -- in list order; a key counts as empty
    ∷ writes 4 3 (field 0x2C 0 2 ∷ keyed_field 0x21 99 99 2 3 ∷ field 0xFD 1 4 ∷ field 0x2A 3 2 ∷ field 0xFD 0 5 ∷ []) (text "CZabc") (replicate 44 7) (Ok 43)
    (onie_of (hex "2C 02 43 5A 21 03 61 62 63 FD 04 5A 61 62 63 2A 02 62 63 FD 05 43 5A 61 62 63") (hex "B1 B5 34 5D") ++ hex "FF")
    ∷ rounds 4 3 (field 0x25 0 19 ∷ field 0x24 3 6 ∷ field 0x2D 19 0 ∷ []) stamp 60
    (saying_bare 0x25 stamp ∷ saying_bare 0x24 (text "31/202") ∷ saying_bare 0x2D [] ∷ [])
    -- a value of 255 bytes: the declared length is 263. One more is 7
    ∷ writes 4 3 (field 0xFD 0 255 ∷ []) ((hex "E2 96 80 93") ++ replicate 251 0) (replicate 275 7) (Ok 274) (onie_of (block (hex "E2 96 80 93") 255) (hex "72 AD F7 D5") ++ hex "FF")
    ∷ unwrites 4 3 (field 0x21 0 255 ∷ []) (replicate 255 0x41) 273 (refusal 12 0)
    ∷ unwrites 4 3 (field 0x21 0 256 ∷ []) (replicate 256 0x41) 300 (refusal 7 0)
    ∷ unwrites 4 3 (field 0x22 0 0 ∷ field 0xFD 0 256 ∷ []) (replicate 256 0x41) 300 (refusal 7 1)
    ∷ unwrites 4 3 (field 0xFD 0 255 ∷ []) (replicate 255 0x41) 273 (refusal 12 0)
    -- a declared length of 255 and of 256
    ∷ writes 4 3 (field 0xFD 0 247 ∷ []) ((hex "DD 5B 30 9E") ++ replicate 251 0) (replicate 266 7) (Ok 266) (onie_of (block (hex "DD 5B 30 9E") 247) (hex "72 AD F7 D5"))
    ∷ writes 4 3 (field 0xFD 0 248 ∷ []) ((hex "C4 15 AB 08") ++ replicate 251 0) (replicate 267 7) (Ok 267) (onie_of (block (hex "C4 15 AB 08") 248) (hex "72 AD F7 D5"))
    -- 2,059 bytes fit, where the output has them; one more is 12, whatever the output has
    ∷ writes 4 3 (long_fields 241) long_values (replicate 2060 7) (Ok 2059) (longest ++ hex "FF")
    ∷ numbers (writing_long 241 2058) 12
    ∷ numbers (writing_long 242 2060) 12
    ∷ unwrites 4 3 (long_fields 255 ++ long_fields 255) long_values 5000 (refusal 12 0)
    -- 14, 13, 7, 8, in this order and by the number of the field; one field before the next; then 12
    ∷ unwrites 4 3 (field 0x00 0 1 ∷ []) (text "AB") 4 (refusal 14 0)
    ∷ unwrites 4 3 (field 0x21 0 1 ∷ field 0xFE 0 4 ∷ []) (text "AB") 4 (refusal 14 1)
    ∷ unwrites 4 3 (field 0x21 0 1 ∷ field 0xFF 0 1 ∷ []) (text "AB") 4 (refusal 14 1)
    ∷ unwrites 4 3 (field 0x121 0 1 ∷ []) (text "AB") 4 (refusal 14 0)
    ∷ unwrites 4 3 (field 0x26 9 9 ∷ []) (text "AB") 4 (refusal 14 0)
    ∷ unwrites 4 3 (field 0x24 1 2 ∷ []) (text "AB") 4 (refusal 13 0)
    ∷ unwrites 4 3 (field 0x21 2 0 ∷ field 0x22 3 0 ∷ []) (text "AB") 4 (refusal 13 1)
    ∷ unwrites 4 3 (field 0x2A 0 2 ∷ field 0x2A 0 1 ∷ []) (text "AB") 4 (refusal 7 1)
    ∷ unwrites 4 3 (field 0x2A 0 2 ∷ field 0x21 0 1 ∷ field 0x2A 0 2 ∷ []) (text "AB") 0 (refusal 8 2)
    ∷ unwrites 4 3 (keyed_field 0x2A 0 1 0 2 ∷ keyed_field 0x2A 1 1 0 2 ∷ []) (text "AB") 0 (refusal 8 1)
    ∷ unwrites 4 3 (field 0x2A 0 1 ∷ field 0x00 9 9 ∷ []) (text "AB") 0 (refusal 7 0)
    ∷ unwrites 4 3 (field 0x2A 0 2 ∷ []) (text "AB") 20 (refusal 12 0)
    -- ---- edits: the first entry, in the middle, the last; the declared length and the check follow
    ∷ edits 4 3 board 0 (text "XYZ") (replicate 44 7) (Ok 42)
    (onie_of (hex "21 03 58 59 5A 2A 02 00 03 99 02 01 02 FD 04 01 02 03 04 FD 04 05 06 07 08") (hex "03 10 EE 37") ++ hex "FF FF")
    ∷ edits 4 3 board 0 [] (replicate 39 7) (Ok 39) (onie_of (hex "21 00 2A 02 00 03 99 02 01 02 FD 04 01 02 03 04 FD 04 05 06 07 08") (hex "A8 5D F4 AF"))
    ∷ edits 4 4 board 1 (hex "FF 00") (replicate 40 7) (Ok 40) (onie_of (hex "21 01 41 2A 02 FF 00 99 02 01 02 FD 04 01 02 03 04 FD 04 05 06 07 08") (hex "24 D4 7C 63"))
    ∷ edits 4 3 board 1 (hex "FF 00") (replicate 40 7) (Ok 40) (onie_of (hex "21 01 41 2A 02 FF 00 99 02 01 02 FD 04 01 02 03 04 FD 04 05 06 07 08") (hex "24 D4 7C 63"))
    ∷ edits 4 3 board 3 (hex "09 08 07 06 05") (replicate 41 7) (Ok 41)
    (onie_of (hex "21 01 41 2A 02 00 03 99 02 01 02 FD 05 09 08 07 06 05 FD 04 05 06 07 08") (hex "05 41 96 C4"))
    ∷ edits 4 3 board 4 (hex "01 02 03 04") (replicate 41 7) (Ok 40)
    (onie_of (hex "21 01 41 2A 02 00 03 99 02 01 02 FD 04 01 02 03 04 FD 04 01 02 03 04") (hex "B7 47 1B 1A") ++ hex "FF")
    ∷ edits 4 3 board 0 (text "A") (replicate 40 7) (Ok 40) board
    -- what followed the old end is dropped
    ∷ edits 4 3 (board ++ hex "FE 04 00 00 00 00") 1 (hex "00 04") (replicate 42 7) (Ok 40)
    (onie_of (hex "21 01 41 2A 02 00 04 99 02 01 02 FD 04 01 02 03 04 FD 04 05 06 07 08") (hex "15 10 1A B4") ++ hex "FF FF")
    -- a declared length that passes 255
    ∷ edits 4 3 (onie_of (hex "FD 04 01 02 03 04 2D 01 42") (hex "A2 84 2B 0F")) 0 ((hex "B1 05 58 9B") ++ replicate 251 0) (replicate 278 7) (Ok 277)
    (onie_of (block (hex "B1 05 58 9B") 255 ++ hex "2D 01 42") (hex "80 5E 22 AB") ++ hex "FF")
    -- the image's own refusals; 13 at 0; 14 and 7 at the old entry's place; 12
    ∷ unedits 4 3 (onie_of (hex "21 01 41") (hex "D5 F1 23 CA")) 5 [] 3 (refusal 10 16)
    ∷ unedits 4 3 (onie_as 10 (hex "21 01 41") (hex "53 65 51 65") ++ hex "00") 0 [] 3 (refusal 5 9)
    ∷ unedits 4 3 (onie_of (hex "21 00 21 00") (hex "BF AB 52 4C")) 9 [] 3 (refusal 8 13)
    ∷ unedits 4 3 board 5 (text "B") 50 (refusal 13 0)
    ∷ unedits 4 3 no_entries 0 [] 50 (refusal 13 0)
    ∷ unedits 4 3 board 2 (hex "01 02") 50 (refusal 14 18)
    ∷ unedits 4 3 board 2 (replicate 256 0) 0 (refusal 14 18)
    ∷ unedits 4 3 board 0 (hex "7F") 50 (refusal 7 11)
    ∷ unedits 4 3 board 0 (replicate 256 0x41) 0 (refusal 7 11)
    ∷ unedits 4 3 board 0 (replicate 255 0x41) 293 (refusal 12 0)
    ∷ unedits 4 3 board 1 (hex "03") 50 (refusal 7 14)
    ∷ unedits 4 3 board 1 (hex "00 00 03") 50 (refusal 7 14)
    ∷ unedits 4 3 board 4 (hex "01 02 03") 0 (refusal 7 28)
    ∷ unedits 4 3 board 3 (replicate 256 0x00) 400 (refusal 7 22)
    ∷ unedits 4 3 board 0 (text "AB") 40 (refusal 12 0)
    -- 12 where the declared length would pass 2,048, whatever the output has
    ∷ unedits 4 3 longest 7 (replicate 242 0) 2061 (refusal 12 0)
    ∷ numbers (editing_long (replicate 241 0) 2059) 0
    ∷ []

pub every-case : map given cases ≡ map wanted cases
unfolding given
every-case = refl
