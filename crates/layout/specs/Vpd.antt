-- VPD 2.0 (01, "VPD 2.0 (002)").
-- Assumes nothing.
use Rattle.std.specs.Prelude.{ℕ, zero, suc, ◌+◌, ◌*◌, ◌-◌, ◌/◌, ◌%◌, List, [], ◌∷◌, ◌++◌, Bool, true, false, ◌&&◌, ◌||◌, length, get_or, ltb, leb, eqb, Ok, Err, Some, None}
use Rattle.layout.specs.Answers.{Headed, Length}
use Rattle.layout.specs.declared.Reading.TheVariants.{Plain}
use Rattle.layout.specs.Bytes.{if, between, all, same_bytes}
use Rattle.layout.specs.Shape.{Shape, Label, naming, fine}

-- the length that begins at j, where n was read so far and k more length bytes are allowed
unfoldable pub groups : ℕ → ℕ → ℕ → List ℕ → Length
groups zero n j s = Err 6
groups (suc k) n j s =
    if (ltb j (length s))
    (λ _. if (ltb (get_or s j 0) 128) (λ _. Ok ((n * 128 + get_or s j 0), (j + 1))) (λ _. groups k (n * 128 + (get_or s j 0 - 128)) (j + 1) s))
    (λ _. Err 5)

-- the head of an entry whose key has the length n and stands at j
abbrev pub keyed_head : Length → List ℕ → Headed
keyed_head (Ok (n, j)) s =
    if (leb (j + n) (length s)) (λ _. Ok (Some (record { code = get_or s 0 0; key = j; klen = n; at = j + n }))) (λ _. Err 5)
keyed_head (Err n) s = Err n

-- type 00h or FFh ends the image; types 02h to FDh can't be skipped
unfoldable pub vpd_head : List ℕ → Headed
vpd_head s =
    if (ltb 0 (length s))
    (λ _. if (eqb (get_or s 0 0) 0x00) (λ _. Ok None)
    (λ _. if (eqb (get_or s 0 0) 0xFF) (λ _. Ok None)
    (λ _. if (eqb (get_or s 0 0) 0x01) (λ _. keyed_head (groups 4 0 1 s) s)
    (λ _. if (eqb (get_or s 0 0) 0xFE) (λ _. keyed_head (groups 4 0 1 s) s)
    (λ _. Err 6)))))
    (λ _. Err 5)

-- the shortest length bytes that say n, for every n below 2 to the 28th; what is longer fits no image
unfoldable pub shortest : ℕ → List ℕ
shortest n =
    if (ltb n 128) (λ _. n ∷ [])
    (λ _. if (ltb n 16384) (λ _. (128 + n / 128) ∷ (n % 128) ∷ [])
    (λ _. if (ltb n 2097152) (λ _. (128 + n / 16384) ∷ (128 + n / 128 % 128) ∷ (n % 128) ∷ [])
    (λ _. (128 + n / 2097152) ∷ (128 + n / 16384 % 128) ∷ (128 + n / 128 % 128) ∷ (n % 128) ∷ [])))

-- a byte of a key that is written: a-z, A-Z, 0-9 or underscore
abbrev pub key_byte : ℕ → Bool
key_byte b = between 0x61 0x7A b || between 0x41 0x5A b || between 0x30 0x39 b || eqb b 0x5F

-- the reader's rule on the key of a 01h: it is not empty, and may be any bytes (02, "VPD names with dots")
unfoldable pub vpd_reader_key : ℕ → List ℕ → Bool
vpd_reader_key c key = if (eqb c 0x01) (λ _. ltb 0 (length key)) (λ _. true)

-- the writer's rule on the key of a 01h: it is not empty, and each byte is of 01's alphabet
unfoldable pub vpd_writer_key : ℕ → List ℕ → Bool
vpd_writer_key c key = if (eqb c 0x01) (λ _. ltb 0 (length key) && all key_byte key) (λ _. true)

-- FEh has a value of four bytes
unfoldable pub vpd_rule : ℕ → List ℕ → Bool
vpd_rule c v = if (eqb c 0xFE) (λ _. eqb (length v) 4) (λ _. true)

-- a 01h comes twice where the key is the same
unfoldable pub vpd_twice : Label → Label → Bool
vpd_twice a b = if (eqb a.code 0x01) (λ _. same_bytes a.key b.key) (λ _. true)

unfoldable pub vpd : Shape
vpd =
    record {
      number = 2;
      edition = 1;
      keyed = true;
      opened = λ s. Ok (0, (length s));
      head = λ b s. vpd_head s;
      vlen = λ h s. groups 4 0 h.at s;
      last = λ c. false;
      filled = λ p end. fine;
      closing = 0x00 ∷ [];
      check = λ s. [];
      header = λ n. [];
      opening = λ c key. c ∷ (shortest (length key) ++ key);
      lens = λ c n. shortest n;
      most = 65536;
      namings = naming 1 0x01 0x01 ∷ naming 2 0xFE 0xFE ∷ [];
      reader_key = vpd_reader_key;
      writer_key = vpd_writer_key;
      value_rule = vpd_rule;
      length_rule = λ c n. true;
      reading = λ c v. Plain;
      twice = vpd_twice;
      required = [];
    }
