-- ONIE (02, "ONIE images and edition 3", "Real calendar days"; 003).
-- Assumes nothing.
use Rattle.std.specs.Prelude.{ℕ, ◌+◌, ◌*◌, ◌/◌, ◌%◌, List, [], ◌∷◌, ◌++◌, Bool, true, false, not, ◌&&◌, length, get_or, ltb, leb, eqb, Ok, Err}
use Rattle.crc.specs.Crc.{check32_of}
use Rattle.layout.specs.Answers.{Opened}
use Rattle.layout.specs.declared.Reading.{Reading}
use Rattle.layout.specs.declared.Reading.TheVariants.{Plain, Text, Number, Addresses, Timed}
use Rattle.layout.specs.declared.Date.{Date}
use Rattle.layout.specs.declared.Time.{Time}
use Rattle.layout.specs.Bytes.{if, between, all, one_of, same_bytes, part, high_first, refusal}
use Rattle.layout.specs.Calendar.{is_day, is_time, two_digits, four_digits, date, time}
use Rattle.layout.specs.Shape.{Shape, naming, fine, faulty, Judged, Coded, coded}
use Rattle.layout.specs.Fboss.{printable, digit}

-- the eight bytes TlvInfo and a zero, which every header begins with
abbrev pub tlv_info : List ℕ
tlv_info = 0x54 ∷ 0x6C ∷ 0x76 ∷ 0x49 ∷ 0x6E ∷ 0x66 ∷ 0x6F ∷ 0x00 ∷ []

-- the length that a header declares, of all that follows the header, high byte first
abbrev pub declared : List ℕ → ℕ
declared s = get_or s 9 0 * 256 + get_or s 10 0

-- the most that a header may declare (house)
abbrev pub most_declared : ℕ
most_declared = 2048

-- TlvInfo and a zero, 01h, the declared length, which ends the room of the entries. The last test holds of every byte: definitions speak of numbers, and two of them are
-- to say a length in one way only
unfoldable pub onie_opened : List ℕ → Opened
onie_opened s =
    if (ltb (length s) 11) (λ _. Err (refusal 3 0))
    (λ _. if (same_bytes (part 0 8 s) tlv_info)
    (λ _. if (eqb (get_or s 8 0) 0x01)
    (λ _. if (leb (declared s) most_declared && leb (11 + declared s) (length s) && ltb (get_or s 10 0) 256)
    (λ _. Ok (11, (11 + declared s)))
    (λ _. Err (refusal 5 9)))
    (λ _. Err (refusal 4 0)))
    (λ _. Err (refusal 3 0)))

-- the check ends the room: after the entries it has six bytes, FE 04 and the check; else the declared length is wrong
unfoldable pub onie_filled : ℕ → ℕ → Judged
onie_filled p end = if (eqb (p + 6) end) (λ _. fine) (λ _. faulty 5 9)

-- four bytes that say n, high byte first
abbrev pub four_bytes : ℕ → List ℕ
four_bytes n = (n / 16777216) ∷ (n / 65536 % 256) ∷ (n / 256 % 256) ∷ (n % 256) ∷ []

-- the check's four bytes, over all before the closing and the closing's own two bytes
unfoldable pub onie_check : List ℕ → List ℕ
onie_check s = four_bytes (check32_of (s ++ (0xFE ∷ 0x04 ∷ [])))

-- a byte fits a byte of a form: a 0 of the form stands for any digit, every other byte for itself
abbrev pub fits_form : ℕ → ℕ → Bool
fits_form x b = if (eqb x 0x30) (λ _. digit b) (λ _. eqb b x)

-- bytes of a form: as many, and each fits
unfoldable pub formed : List ℕ → List ℕ → Bool
formed [] [] = true
formed [] (b ∷ bs) = false
formed (x ∷ xs) [] = false
formed (x ∷ xs) (b ∷ bs) = fits_form x b && formed xs bs

-- 00/00/0000 00:00:00
abbrev pub date_form : List ℕ
date_form =
    0x30 ∷ 0x30 ∷ 0x2F ∷ 0x30 ∷ 0x30 ∷ 0x2F ∷ 0x30 ∷ 0x30 ∷ 0x30 ∷ 0x30 ∷ 0x20 ∷ 0x30 ∷ 0x30 ∷ 0x3A ∷ 0x30 ∷ 0x30 ∷ 0x3A ∷ 0x30 ∷ 0x30 ∷ []

-- what MM/DD/YYYY HH:NN:SS shows: the date, and the time
abbrev pub onie_date : List ℕ → Date
onie_date v = date (four_digits 6 v) (two_digits 0 v) (two_digits 3 v)

abbrev pub onie_time : List ℕ → Time
onie_time v = time (two_digits 11 v) (two_digits 14 v) (two_digits 17 v)

-- bytes of this form that show a day and a time of it
unfoldable pub onie_date_rule : List ℕ → Bool
onie_date_rule v = formed date_form v && is_day (onie_date v) && is_time (onie_time v)

abbrev pub capital : ℕ → Bool
capital b = between 0x41 0x5A b

unfoldable pub onie_rule : ℕ → List ℕ → Bool
onie_rule c v =
    if (one_of (0x21 ∷ 0x22 ∷ 0x23 ∷ 0x2B ∷ 0x2D ∷ []) c) (λ _. all printable v)
    (λ _. if (eqb c 0x24) (λ _. eqb (length v) 6)
    (λ _. if (eqb c 0x25) (λ _. onie_date_rule v)
    (λ _. if (eqb c 0x2A) (λ _. eqb (length v) 2)
    (λ _. if (eqb c 0x2C) (λ _. eqb (length v) 2 && all capital v)
    (λ _. if (eqb c 0xFD) (λ _. leb 4 (length v))
    (λ _. true))))))

unfoldable pub onie_reading : ℕ → List ℕ → Reading
onie_reading c v =
    if (eqb c 0x24) (λ _. Addresses (high_first 0 (part 0 6 v)) 1)
    (λ _. if (eqb c 0x2A) (λ _. Number (high_first 0 (part 0 2 v)))
    (λ _. if (eqb c 0xFD) (λ _. Plain)
    (λ _. if (eqb c 0x25) (λ _. Timed (onie_date v) (onie_time v))
    (λ _. Text))))

-- code FEh with length 4 ends the image, and its value is the check. An FDh may come again
abbrev pub onie_coded : Coded
onie_coded =
    record {
      number = 4;
      edition = 3;
      opened = onie_opened;
      filled = onie_filled;
      end = 0xFE;
      size = 4;
      check = onie_check;
      header = λ n. tlv_info ++ (0x01 ∷ ((n + 6) / 256) ∷ ((n + 6) % 256) ∷ []);
      most = 11 + most_declared;
      namings = naming 3 0x21 0x25 ∷ naming 3 0x2A 0x2D ∷ naming 3 0xFD 0xFD ∷ [];
      value_rule = onie_rule;
      reading = onie_reading;
      twice = λ a b. not (eqb a.code 0xFD);
      required = [];
    }

unfoldable pub onie : Shape
onie = coded onie_coded
