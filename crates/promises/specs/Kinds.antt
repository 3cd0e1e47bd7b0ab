-- Kind and reading (demand 2): every record's kind is format × 256 + code exactly where its edition names the code, and its reading is that of 01's or 02's line on the code.
-- Assumes nothing.
use Rattle.std.specs.Prelude.{ℕ, ◌+◌, ◌*◌, ◌≤◌, ◌≡◌, List, [], ◌∷◌, ◌⊎◌, length}
use Rattle.layout.specs.declared.Format.{Format}
use Rattle.layout.specs.declared.Format.TheVariants.{Fboss, Vpd, Tiny, Onie}
use Rattle.layout.specs.declared.Entry.{Entry}
use Rattle.layout.specs.declared.Identity.{Identity}
use Rattle.layout.specs.declared.Date.{Date}
use Rattle.layout.specs.declared.Time.{Time}
use Rattle.layout.specs.declared.Reading.{Reading}
use Rattle.layout.specs.declared.Reading.TheVariants.{Plain, Text, Number, Addresses, Numbered, Tests, Identified, Batched, Dated, Timed}
use Rattle.layout.specs.Bytes.{string_number}
use Rattle.laws.specs.Contents.{said}
use Rattle.layout.specs.Each.{Each}
use Rattle.promises.specs.Words.{Serves, Counts, Lists, tells_check}
use Rattle.promises.specs.Names.{Named}
use Rattle.promises.specs.Rules.{Digit}

-- ---- readings, by 01's lines and document 02's third and fifth items

-- six bytes of an address, high byte first
abbrev pub base : ℕ → ℕ → ℕ → ℕ → ℕ → ℕ → ℕ
base a b c d e f = a * 1099511627776 + b * 4294967296 + c * 16777216 + d * 65536 + e * 256 + f

-- serial string number, part string number, major, minor, two free bytes
abbrev pub identified : ℕ → ℕ → ℕ → ℕ → ℕ → ℕ → Identity
identified s p major minor x y =
    record { serial = string_number s; part = string_number p; major = major; minor = minor; free0 = x; free1 = y }

-- year, month and day; hour, minute and second
abbrev pub dated : ℕ → ℕ → ℕ → Date
dated y m d = record { year = y; month = m; day = d }

abbrev pub timed : ℕ → ℕ → ℕ → Time
timed h n s = record { hour = h; minute = n; second = s }

-- FBOSS 8, 9, 10 are a number, 13 a date (YYYYMMDD), 17 to 20 an address block; all others that are named are text
pub data FbossMeans (code : ℕ) : List ℕ → Reading → Type 0 where
  text : {v : List ℕ} → (code ≤ 7) ⊎ (((11 ≤ code) × (code ≤ 12)) ⊎ ((14 ≤ code) × (code ≤ 16))) → FbossMeans code v Text
  date : (a b c d m n x y : ℕ) → code ≡ 13 → Each Digit (a ∷ b ∷ c ∷ d ∷ m ∷ n ∷ x ∷ y ∷ []) →
      FbossMeans code ((0x30 + a) ∷ (0x30 + b) ∷ (0x30 + c) ∷ (0x30 + d) ∷ (0x30 + m) ∷ (0x30 + n) ∷ (0x30 + x) ∷ (0x30 + y) ∷ [])
      (Dated (dated (a * 1000 + b * 100 + c * 10 + d) (m * 10 + n) (x * 10 + y)))
  number : (b : ℕ) → 8 ≤ code → code ≤ 10 → FbossMeans code (b ∷ []) (Number b)
  addresses : (a b c d e f g h : ℕ) → 17 ≤ code → code ≤ 20 →
      FbossMeans code (a ∷ b ∷ c ∷ d ∷ e ∷ f ∷ g ∷ h ∷ []) (Addresses (base a b c d e f) (g * 256 + h))

-- VPD has plain bytes
pub data VpdMeans (code : ℕ) : List ℕ → Reading → Type 0 where
  plain : {v : List ℕ} → VpdMeans code v Plain

-- a bit that is off or on
abbrev pub Bit : ℕ → Type 0
Bit x = x ≤ 1

-- Tiny: 01h plain bytes; 10h a string number; 11h test flags, with how many of the low four bits are on; 60h an address block of count 1; 61h and 62h an identity;
-- 80h and 81h an identity with batch, low byte first
pub data TinyMeans (code : ℕ) : List ℕ → Reading → Type 0 where
  plain : {v : List ℕ} → code ≡ 0x01 → TinyMeans code v Plain
  numbered : (b : ℕ) → code ≡ 0x10 → TinyMeans code (b ∷ []) (Numbered (string_number b))
  tests : (b w x y z high : ℕ) → code ≡ 0x11 → Bit w → Bit x → Bit y → Bit z → b ≡ w + x * 2 + y * 4 + z * 8 + high * 16 →
      TinyMeans code (b ∷ []) (Tests b (w + x + y + z))
  addresses : (a b c d e f : ℕ) → code ≡ 0x60 → TinyMeans code (a ∷ b ∷ c ∷ d ∷ e ∷ f ∷ []) (Addresses (base a b c d e f) 1)
  identity : (s p major minor x y : ℕ) → (code ≡ 0x61) ⊎ (code ≡ 0x62) →
      TinyMeans code (s ∷ p ∷ major ∷ minor ∷ x ∷ y ∷ []) (Identified (identified s p major minor x y))
  batched : (s p major minor x y low high : ℕ) → (code ≡ 0x80) ⊎ (code ≡ 0x81) →
      TinyMeans code (s ∷ p ∷ major ∷ minor ∷ x ∷ y ∷ low ∷ high ∷ []) (Batched (identified s p major minor x y) (low + high * 256))

-- ONIE: 24h an address block of count 1; 25h a date with time (MM/DD/YYYY HH:NN:SS); 2Ah a number of two bytes, high byte first; FDh plain bytes; all others that are named are text
pub data OnieMeans (code : ℕ) : List ℕ → Reading → Type 0 where
  text : {v : List ℕ} → ((0x21 ≤ code) × (code ≤ 0x23)) ⊎ ((0x2B ≤ code) × (code ≤ 0x2D)) → OnieMeans code v Text
  date : (m₁ m₂ d₁ d₂ y₁ y₂ y₃ y₄ h₁ h₂ n₁ n₂ s₁ s₂ : ℕ) → code ≡ 0x25 →
      Each Digit (m₁ ∷ m₂ ∷ d₁ ∷ d₂ ∷ y₁ ∷ y₂ ∷ y₃ ∷ y₄ ∷ h₁ ∷ h₂ ∷ n₁ ∷ n₂ ∷ s₁ ∷ s₂ ∷ []) →
      OnieMeans code
      ((0x30 + m₁) ∷ (0x30 + m₂) ∷ 0x2F ∷ (0x30 + d₁) ∷ (0x30 + d₂) ∷ 0x2F ∷ (0x30 + y₁) ∷ (0x30 + y₂) ∷ (0x30 + y₃) ∷ (0x30 + y₄)
      ∷ 0x20 ∷ (0x30 + h₁) ∷ (0x30 + h₂) ∷ 0x3A ∷ (0x30 + n₁) ∷ (0x30 + n₂) ∷ 0x3A ∷ (0x30 + s₁) ∷ (0x30 + s₂) ∷ [])
      (Timed (dated (y₁ * 1000 + y₂ * 100 + y₃ * 10 + y₄) (m₁ * 10 + m₂) (d₁ * 10 + d₂)) (timed (h₁ * 10 + h₂) (n₁ * 10 + n₂) (s₁ * 10 + s₂)))
  addresses : (a b c d e f : ℕ) → code ≡ 0x24 → OnieMeans code (a ∷ b ∷ c ∷ d ∷ e ∷ f ∷ []) (Addresses (base a b c d e f) 1)
  number : (a b : ℕ) → code ≡ 0x2A → OnieMeans code (a ∷ b ∷ []) (Number (a * 256 + b))
  plain : {v : List ℕ} → code ≡ 0xFD → OnieMeans code v Plain

-- 01's term "reading": what a value of a named code means
abbrev pub Means : Format → ℕ → List ℕ → Reading → Type 0
Means Fboss code v r = FbossMeans code v r
Means Vpd code v r = VpdMeans code v r
Means Tiny code v r = TinyMeans code v r
Means Onie code v r = OnieMeans code v r

-- ---- the records of a list

-- a record of an image of format number f, as edition e has it
pub record Marked (f e : ℕ) (format : Format) (image : List ℕ) (x : Entry) : Type 0 where
  pub named : Named format e x.code → (x.kind ≡ f * 256 + x.code) × Means format x.code (said image x).value x.reading
  pub unnamed : (Named format e x.code → ⊥) → (x.kind ≡ 0) × (x.reading ≡ Plain)

pub record MarkedList (f e : ℕ) (image : List ℕ) (n : ℕ) : Type 0 where
  pub format : Format
  pub serves : Serves f e format
  pub entries : List Entry
  pub counted : length entries ≡ n
  pub listed : Lists f e image entries
  pub marked : Each (Marked f e format image) entries

abbrev pub Kinds : Type 0
Kinds = (f e : ℕ) (image : List ℕ) (n : ℕ) → Counts (tells_check f e image) n → MarkedList f e image n
