-- The rules of named entries (7), as document 01's lines have them ("FBOSS v5", "VPD 2.0", "Tiny version 2", "Writing, editing, walking") and document 02's first, third and fifth items, apart from the definitions' tests.
-- Assumes nothing.
use Rattle.std.specs.Prelude.{ℕ, ◌+◌, ◌*◌, ◌/◌, ◌≤◌, ◌<◌, ◌≡◌, List, [], ◌∷◌, ◌⊎◌, true, length}
use Rattle.layout.specs.declared.Format.{Format}
use Rattle.layout.specs.declared.Format.TheVariants.{Fboss, Vpd, Tiny, Onie}
use Rattle.layout.specs.Years.{Printed}
use Rattle.layout.specs.Editions.{shape}
use Rattle.layout.specs.Walk.{Content}
use Rattle.layout.specs.Read.{reader_rule}
use Rattle.layout.specs.Write.{writer_rule}
use Rattle.layout.specs.Edit.{edit_rule}
use Rattle.layout.specs.Each.{Each}
use Rattle.laws.specs.Grammar.{grammar, EntryOf}
use Rattle.promises.specs.Names.{Named}

-- one is as good as the other
pub record Exactly (A B : Type 0) : Type 0 where
  pub to : A → B
  pub from : B → A

-- x is one of a to b
abbrev pub Between : ℕ → ℕ → ℕ → Type 0
Between a b x = (a ≤ x) × (x ≤ b)

-- ---- FBOSS

-- a byte of text
abbrev pub Printable : ℕ → Type 0
Printable b = Between 0x20 0x7E b

-- text of any length: 1, 2, 6, 7, 11, 12, 14, 15, 16
abbrev pub TextCode : ℕ → Type 0
TextCode code = Between 1 2 code ⊎ (Between 6 7 code ⊎ (Between 11 12 code ⊎ Between 14 16 code))

pub data FbossValue (code : ℕ) : List ℕ → Type 0 where
  text : {v : List ℕ} → TextCode code → Each Printable v → FbossValue code v
  eight : {v : List ℕ} → code ≡ 3 → length v ≡ 8 → Each Printable v → FbossValue code v
  twelve : {v : List ℕ} → Between 4 5 code → length v ≡ 12 → Each Printable v → FbossValue code v
  -- eight digits YYYYMMDD that show a day
  date : (a b c d m n x y : ℕ) → code ≡ 13 → a ≤ 9 → b ≤ 9 → c ≤ 9 → d ≤ 9 → m ≤ 9 → n ≤ 9 → x ≤ 9 → y ≤ 9 →
      Printed (a * 1000 + b * 100 + c * 10 + d) (m * 10 + n) (x * 10 + y) →
      FbossValue code ((0x30 + a) ∷ (0x30 + b) ∷ (0x30 + c) ∷ (0x30 + d) ∷ (0x30 + m) ∷ (0x30 + n) ∷ (0x30 + x) ∷ (0x30 + y) ∷ [])
  number : {v : List ℕ} → Between 8 10 code → length v ≡ 1 → FbossValue code v
  addresses : {v : List ℕ} → Between 17 20 code → length v ≡ 8 → FbossValue code v

-- ---- VPD

-- a key: of a 01h at least one byte, any bytes
pub data VpdKey (code : ℕ) (key : List ℕ) : Type 0 where
  string : code ≡ 0x01 → 1 ≤ length key → VpdKey code key
  info : code ≡ 0xFE → VpdKey code key

-- a-z, A-Z, 0-9 or underscore
abbrev pub KeyByte : ℕ → Type 0
KeyByte b = Between 0x61 0x7A b ⊎ (Between 0x41 0x5A b ⊎ (Between 0x30 0x39 b ⊎ (b ≡ 0x5F)))

pub data VpdValue (code : ℕ) (v : List ℕ) : Type 0 where
  string : code ≡ 0x01 → VpdValue code v
  info : code ≡ 0xFE → length v ≡ 4 → VpdValue code v

-- ---- Tiny

-- a revision: major 0 to 99 or 128 to 153, minor 0 to 99
abbrev pub Revision : ℕ → ℕ → Type 0
Revision major minor = ((major ≤ 99) ⊎ Between 128 153 major) × (minor ≤ 99)

pub data TinyValue (code : ℕ) : List ℕ → Type 0 where
  pool : {v : List ℕ} → code ≡ 0x01 → TinyValue code v
  any : {v : List ℕ} → (code ≡ 0x10) ⊎ ((code ≡ 0x11) ⊎ (code ≡ 0x60)) → TinyValue code v
  identity : (s p major minor x y : ℕ) → Between 0x61 0x62 code → Revision major minor → TinyValue code (s ∷ p ∷ major ∷ minor ∷ x ∷ y ∷ [])
  -- the batch number, low byte first, is at most 9999
  batched : (s p major minor x y low high : ℕ) → Between 0x80 0x81 code → Revision major minor → low + high * 256 ≤ 9999 →
      TinyValue code (s ∷ p ∷ major ∷ minor ∷ x ∷ y ∷ low ∷ high ∷ [])

-- ---- ONIE

-- any digit
abbrev pub Digit : ℕ → Type 0
Digit d = d ≤ 9

pub data OnieValue (code : ℕ) : List ℕ → Type 0 where
  text : {v : List ℕ} → Between 0x21 0x23 code ⊎ ((code ≡ 0x2B) ⊎ (code ≡ 0x2D)) → Each Printable v → OnieValue code v
  address : {v : List ℕ} → code ≡ 0x24 → length v ≡ 6 → OnieValue code v
  -- MM/DD/YYYY HH:NN:SS that shows a day, an hour to 23, minute and second to 59
  date : (m₁ m₂ d₁ d₂ y₁ y₂ y₃ y₄ h₁ h₂ n₁ n₂ s₁ s₂ : ℕ) → code ≡ 0x25 →
      Each Digit (m₁ ∷ m₂ ∷ d₁ ∷ d₂ ∷ y₁ ∷ y₂ ∷ y₃ ∷ y₄ ∷ h₁ ∷ h₂ ∷ n₁ ∷ n₂ ∷ s₁ ∷ s₂ ∷ []) →
      Printed (y₁ * 1000 + y₂ * 100 + y₃ * 10 + y₄) (m₁ * 10 + m₂) (d₁ * 10 + d₂) → h₁ * 10 + h₂ ≤ 23 → n₁ * 10 + n₂ ≤ 59 → s₁ * 10 + s₂ ≤ 59 →
      OnieValue code
      ((0x30 + m₁) ∷ (0x30 + m₂) ∷ 0x2F ∷ (0x30 + d₁) ∷ (0x30 + d₂) ∷ 0x2F ∷ (0x30 + y₁) ∷ (0x30 + y₂) ∷ (0x30 + y₃) ∷ (0x30 + y₄)
      ∷ 0x20 ∷ (0x30 + h₁) ∷ (0x30 + h₂) ∷ 0x3A ∷ (0x30 + n₁) ∷ (0x30 + n₂) ∷ 0x3A ∷ (0x30 + s₁) ∷ (0x30 + s₂) ∷ [])
  number : {v : List ℕ} → code ≡ 0x2A → length v ≡ 2 → OnieValue code v
  -- two letters A-Z
  country : (a b : ℕ) → code ≡ 0x2C → Between 0x41 0x5A a → Between 0x41 0x5A b → OnieValue code (a ∷ b ∷ [])
  vendor : {v : List ℕ} → code ≡ 0xFD → 4 ≤ length v → OnieValue code v

-- ---- any format

abbrev pub KeyRule : Format → ℕ → List ℕ → Type 0
KeyRule Fboss code key = Unit {0}
KeyRule Vpd code key = VpdKey code key
KeyRule Tiny code key = Unit {0}
KeyRule Onie code key = Unit {0}

-- what is asked besides of a key that is written: of a VPD 01h, that each byte is of the narrow alphabet
abbrev pub AlphabetRule : Format → ℕ → List ℕ → Type 0
AlphabetRule Fboss code key = Unit {0}
AlphabetRule Vpd code key = code ≡ 0x01 → Each KeyByte key
AlphabetRule Tiny code key = Unit {0}
AlphabetRule Onie code key = Unit {0}

abbrev pub ValueRule : Format → ℕ → List ℕ → Type 0
ValueRule Fboss code v = FbossValue code v
ValueRule Vpd code v = VpdValue code v
ValueRule Tiny code v = TinyValue code v
ValueRule Onie code v = OnieValue code v

-- the length of a value that is written: FBOSS, ONIE and a Tiny pool to 255, another Tiny value as its tag says
abbrev pub LengthRule : Format → ℕ → ℕ → Type 0
LengthRule Fboss code n = n ≤ 255
LengthRule Vpd code n = Unit {0}
LengthRule Tiny code n = ((code < 16) × (n ≤ 255)) ⊎ ((16 ≤ code) × (n ≡ code / 16))
LengthRule Onie code n = n ≤ 255

-- the reader's rule is asked of an entry, whose value has the length that its frame says; the writer's and the edit's of any value
pub record Rules : Type 0 where
  pub reader : (format : Format) (e : ℕ) (bytes : List ℕ) (c : Content) → Named format e c.code → EntryOf (grammar format) bytes c →
      Exactly (reader_rule (shape format) c ≡ true) (KeyRule format c.code c.key × ValueRule format c.code c.value)
  pub writer : (format : Format) (e : ℕ) (c : Content) → Named format e c.code →
      Exactly (writer_rule (shape format) c ≡ true)
      (KeyRule format c.code c.key × AlphabetRule format c.code c.key × LengthRule format c.code (length c.value) × ValueRule format c.code c.value)
  pub edit : (format : Format) (e code : ℕ) (v : List ℕ) → Named format e code →
      Exactly (edit_rule (shape format) code v ≡ true) (LengthRule format code (length v) × ValueRule format code v)
