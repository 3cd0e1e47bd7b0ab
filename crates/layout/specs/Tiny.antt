-- Tiny EEPROM version 2 (01, "Tiny version 2 (004)").
-- Assumes nothing.
use Rattle.std.specs.Prelude.{ℕ, ◌+◌, ◌*◌, ◌-◌, ◌/◌, ◌%◌, List, [], ◌∷◌, Bool, true, false, ◌&&◌, ◌||◌, length, get_or, ltb, leb, eqb, Ok, Err, Some, None}
use Rattle.crc.specs.Crc.{check8_of}
use Rattle.layout.specs.declared.Head.{Head}
use Rattle.layout.specs.Answers.{Headed, Length, Opened}
use Rattle.layout.specs.declared.Identity.{Identity}
use Rattle.layout.specs.declared.Reading.{Reading}
use Rattle.layout.specs.declared.Reading.TheVariants.{Plain, Addresses, Numbered, Tests, Identified, Batched}
use Rattle.layout.specs.Bytes.{if, between, part, high_first, refusal, string_number}
use Rattle.layout.specs.Shape.{Shape, naming, fine, byte_length, bare_head}

-- 56h, 02h, the total length L; the entries fill bytes 3 to L-2
unfoldable pub tiny_opened : List ℕ → Opened
tiny_opened s =
    if (ltb (length s) 3) (λ _. Err (refusal 3 0))
    (λ _. if (eqb (get_or s 0 0) 0x56)
    (λ _. if (eqb (get_or s 1 0) 0x02)
    (λ _. if (leb 4 (get_or s 2 0) && leb (get_or s 2 0) (length s)) (λ _. Ok (3, (get_or s 2 0 - 1))) (λ _. Err (refusal 5 2)))
    (λ _. Err (refusal 4 0)))
    (λ _. Err (refusal 3 0)))

-- the entries end with their room; none comes after the pool; tag 00h is reserved
unfoldable pub tiny_head : Bool → List ℕ → Headed
tiny_head b s =
    if (ltb 0 (length s))
    (λ _. if b (λ _. Err 9)
    (λ _. if (eqb (get_or s 0 0) 0x00) (λ _. Err 6) (λ _. Ok (Some (bare_head (get_or s 0 0))))))
    (λ _. Ok None)

-- a tag's high four bits are the length of the value; where they are 0 the next byte is
unfoldable pub tiny_length : Head → List ℕ → Length
tiny_length h s = if (ltb h.code 16) (λ _. byte_length h s) (λ _. Ok ((h.code / 16), h.at))

-- may a value of the length n follow the tag c
abbrev pub tiny_takes : ℕ → ℕ → Bool
tiny_takes c n = if (ltb c 16) (λ _. ltb n 256) (λ _. eqb n (c / 16))

-- the revision of an identity: major 0 to 99 or 128 to 153, minor 0 to 99
abbrev pub revision_rule : List ℕ → Bool
revision_rule v = (leb (get_or v 2 0) 99 || between 128 153 (get_or v 2 0)) && leb (get_or v 3 0) 99

-- the batch number at the end of an identity with batch, low byte first
abbrev pub batch : List ℕ → ℕ
batch v = get_or v 6 0 + get_or v 7 0 * 256

unfoldable pub tiny_rule : ℕ → List ℕ → Bool
tiny_rule c v =
    if (between 0x61 0x62 c) (λ _. revision_rule v)
    (λ _. if (between 0x80 0x81 c) (λ _. revision_rule v && leb (batch v) 9999)
    (λ _. true))

-- how many of the low four bits are on: the number of tests passed
abbrev pub passed : ℕ → ℕ
passed b = b % 2 + b / 2 % 2 + b / 4 % 2 + b / 8 % 2

abbrev pub identity : List ℕ → Identity
identity v =
    record {
      serial = string_number (get_or v 0 0);
      part = string_number (get_or v 1 0);
      major = get_or v 2 0;
      minor = get_or v 3 0;
      free0 = get_or v 4 0;
      free1 = get_or v 5 0;
    }

unfoldable pub tiny_reading : ℕ → List ℕ → Reading
tiny_reading c v =
    if (eqb c 0x10) (λ _. Numbered (string_number (get_or v 0 0)))
    (λ _. if (eqb c 0x11) (λ _. Tests (get_or v 0 0) (passed (get_or v 0 0)))
    (λ _. if (eqb c 0x60) (λ _. Addresses (high_first 0 (part 0 6 v)) 1)
    (λ _. if (between 0x61 0x62 c) (λ _. Identified (identity v))
    (λ _. if (between 0x80 0x81 c) (λ _. Batched (identity v) (batch v))
    (λ _. Plain)))))

unfoldable pub tiny : Shape
tiny =
    record {
      number = 3;
      edition = 1;
      keyed = false;
      opened = tiny_opened;
      head = tiny_head;
      vlen = tiny_length;
      last = λ c. eqb c 0x01;
      filled = λ p end. fine;
      closing = [];
      check = λ s. check8_of 0 s ∷ [];
      header = λ n. 0x56 ∷ 0x02 ∷ (n + 4) ∷ [];
      opening = λ c key. c ∷ [];
      lens = λ c n. if (ltb c 16) (λ _. n ∷ []) (λ _. []);
      most = 255;
      namings = naming 1 0x01 0x01 ∷ naming 1 0x10 0x11 ∷ naming 1 0x60 0x62 ∷ naming 2 0x80 0x81 ∷ [];
      reader_key = λ c key. true;
      writer_key = λ c key. true;
      value_rule = tiny_rule;
      length_rule = tiny_takes;
      reading = tiny_reading;
      twice = λ a b. true;
      required = [];
    }
