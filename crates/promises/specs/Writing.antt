-- A write: what is put out, and that it is taken exactly where every field is named, inside, meets its rule (Rules), comes once and in order, what is required is there,
-- and it fits an output of at most 65,536 bytes.
-- Assumes nothing.
use Rattle.std.specs.Prelude.{ℕ, ◌+◌, ◌-◌, ◌≤◌, ◌≡◌, List, [], ◌∷◌, ◌++◌, map, true, length, replicate}
use Rattle.layout.specs.declared.Format.{Format}
use Rattle.layout.specs.declared.Format.TheVariants.{Fboss, Vpd, Tiny, Onie}
use Rattle.layout.specs.declared.Part.{Part}
use Rattle.layout.specs.declared.Field.{Field}
use Rattle.layout.specs.Editions.{shape}
use Rattle.layout.specs.Walk.{Content}
use Rattle.layout.specs.Write.{writer_rule, write_image}
use Rattle.layout.specs.Each.{Each}
use Rattle.laws.specs.Grammar.{Among}
use Rattle.promises.specs.Words.{Serves, Counts, tells_write}
use Rattle.promises.specs.Names.{Named}
use Rattle.promises.specs.RoundTrip.{field_says}
use Rattle.promises.specs.Written.{Written, ShortEntries, entries_size, header_size, end_size, Fits}

-- ---- what a write puts out

-- an output that took the image of these fields, in n bytes
pub record Wrote (f e : ℕ) (fields : List Field) (values out : List ℕ) (n : ℕ) : Type 0 where
  pub format : Format
  pub serves : Serves f e format
  -- the fields in list order, each length in its shortest form
  pub entries : List ℕ
  pub made : ShortEntries format entries (map (field_says f values) fields)
  -- header, entries, end and check; FFh in every byte after it
  pub image : List ℕ
  pub written : Written format entries image
  pub long : n ≡ length image
  pub size : n ≡ header_size format + entries_size format (map (field_says f values) fields) + end_size format
  pub filled : (write_image f e fields values out).memory ≡ image ++ replicate (length out - n) 0xFF

-- ---- which lists of fields are taken

-- the part lies inside the lent values
abbrev pub Within : List ℕ → Part → Type 0
Within values x = x.place.0 + x.len ≤ length values

-- the value does, and in VPD the key does too
abbrev pub Inside : Format → List ℕ → Field → Type 0
Inside format values x = Within values x.value × (format ≡ Vpd → Within values x.key)

-- the field comes a second time: the same code, and of VPD 01h the same key; an ONIE FDh never does
abbrev pub Again : Format → Content → Content → Type 0
Again format a b = (a.code ≡ b.code) × (format ≡ Vpd → a.code ≡ 0x01 → a.key ≡ b.key) × (format ≡ Onie → a.code ≡ 0xFD → ⊥)

-- none comes again
abbrev pub Once : Format → List Content → Type 0
Once format [] = Unit {0}
Once format (c ∷ cs) = Each (λ d. Again format d c → ⊥) cs × Once format cs

-- nothing follows a Tiny pool
abbrev pub Ordered : Format → List Content → Type 0
Ordered format [] = Unit {0}
Ordered format (c ∷ cs) = (format ≡ Tiny → c.code ≡ 0x01 → cs ≡ []) × Ordered format cs

-- the codes that an image must have
abbrev pub required : Format → List ℕ
required Fboss = 1 ∷ 8 ∷ 9 ∷ 10 ∷ 11 ∷ []
required Vpd = []
required Tiny = []
required Onie = []

pub record Writable (f e : ℕ) (fields : List Field) (values out : List ℕ) : Type 0 where
  pub format : Format
  pub serves : Serves f e format
  pub short : length out ≤ 65536
  pub named : Each (λ x. Named format e x.code) fields
  pub inside : Each (Inside format values) fields
  pub ruled : Each (λ c. writer_rule (shape format) c ≡ true) (map (field_says f values) fields)
  pub once : Once format (map (field_says f values) fields)
  pub ordered : Ordered format (map (field_says f values) fields)
  pub complete : Each (λ code. Among code (map (field_says f values) fields)) (required format)
  -- the image that these fields make fits
  pub fits : Fits format (header_size format + entries_size format (map (field_says f values) fields) + end_size format) out

pub record Writing : Type 0 where
  pub puts : (f e : ℕ) (fields : List Field) (values out : List ℕ) (n : ℕ) → Counts (tells_write f e fields values out) n → Wrote f e fields values out n
  pub taken_is : (f e : ℕ) (fields : List Field) (values out : List ℕ) → (tells_write f e fields values out).number ≡ 0 → Writable f e fields values out
  pub is_taken : (f e : ℕ) (fields : List Field) (values out : List ℕ) (x : Writable f e fields values out) →
      Counts (tells_write f e fields values out) (header_size x.format + entries_size x.format (map (field_says f values) fields) + end_size x.format)
