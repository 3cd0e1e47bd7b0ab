-- FBOSS v5 (01, "FBOSS v5 (000)"; 02, "Real calendar days").
-- Assumes nothing.
use Rattle.std.specs.Prelude.{ℕ, ◌/◌, ◌%◌, List, [], ◌∷◌, Bool, true, ◌&&◌, length, get_or, ltb, eqb, Ok, Err}
use Rattle.crc.specs.Crc.{check16_of}
use Rattle.layout.specs.Answers.{Opened}
use Rattle.layout.specs.declared.Reading.{Reading}
use Rattle.layout.specs.declared.Reading.TheVariants.{Text, Number, Addresses, Dated}
use Rattle.layout.specs.declared.Date.{Date}
use Rattle.layout.specs.Bytes.{if, between, all, one_of, high_first, refusal, part}
use Rattle.layout.specs.Calendar.{is_day, two_digits, four_digits, date}
use Rattle.layout.specs.Shape.{Shape, naming, fine, Coded, coded}

-- FB FB 05 FF; the entries have room to the image's end
unfoldable pub fboss_opened : List ℕ → Opened
fboss_opened s =
    if (ltb (length s) 4) (λ _. Err (refusal 3 0))
    (λ _. if (eqb (get_or s 0 0) 0xFB && eqb (get_or s 1 0) 0xFB)
    (λ _. if (eqb (get_or s 2 0) 0x05)
    (λ _. if (eqb (get_or s 3 0) 0xFF) (λ _. Ok (4, (length s))) (λ _. Err (refusal 3 0)))
    (λ _. Err (refusal 4 0)))
    (λ _. Err (refusal 3 0)))

-- a byte of text
abbrev pub printable : ℕ → Bool
printable b = between 0x20 0x7E b

abbrev pub digit : ℕ → Bool
digit b = between 0x30 0x39 b

-- what eight digits YYYYMMDD show
abbrev pub fboss_date : List ℕ → Date
fboss_date v = date (four_digits 0 v) (two_digits 4 v) (two_digits 6 v)

-- eight digits that show a day
unfoldable pub date_rule : List ℕ → Bool
date_rule v = eqb (length v) 8 && all digit v && is_day (fboss_date v)

unfoldable pub fboss_rule : ℕ → List ℕ → Bool
fboss_rule c v =
    if (one_of (1 ∷ 2 ∷ 6 ∷ 7 ∷ 11 ∷ 12 ∷ 14 ∷ 15 ∷ 16 ∷ []) c) (λ _. all printable v)
    (λ _. if (eqb c 3) (λ _. eqb (length v) 8 && all printable v)
    (λ _. if (between 4 5 c) (λ _. eqb (length v) 12 && all printable v)
    (λ _. if (eqb c 13) (λ _. date_rule v)
    (λ _. if (between 8 10 c) (λ _. eqb (length v) 1)
    (λ _. if (between 17 20 c) (λ _. eqb (length v) 8)
    (λ _. true))))))

unfoldable pub fboss_reading : ℕ → List ℕ → Reading
fboss_reading c v =
    if (between 8 10 c) (λ _. Number (get_or v 0 0))
    (λ _. if (between 17 20 c) (λ _. Addresses (high_first 0 (part 0 6 v)) (high_first 0 (part 6 2 v)))
    (λ _. if (eqb c 13) (λ _. Dated (fboss_date v))
    (λ _. Text)))

-- the check's two bytes, high byte first
abbrev pub fboss_check : List ℕ → List ℕ
fboss_check s = (check16_of s / 256) ∷ (check16_of s % 256) ∷ []

-- code 250 with length 2 ends the image, and its value is the check
abbrev pub fboss_coded : Coded
fboss_coded =
    record {
      number = 1;
      edition = 1;
      opened = fboss_opened;
      filled = λ p end. fine;
      end = 250;
      size = 2;
      check = fboss_check;
      header = λ n. 0xFB ∷ 0xFB ∷ 0x05 ∷ 0xFF ∷ [];
      most = 65536;
      namings = naming 1 1 16 ∷ naming 2 17 20 ∷ [];
      value_rule = fboss_rule;
      reading = fboss_reading;
      twice = λ a b. true;
      required = 1 ∷ 8 ∷ 9 ∷ 10 ∷ 11 ∷ [];
    }

unfoldable pub fboss : Shape
fboss = coded fboss_coded
