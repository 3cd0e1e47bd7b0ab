-- The entries that fields make.
-- Assumes nothing.
use Rattle.std.specs.Prelude.{ℕ, ◌<◌, ◌≡◌, List, true, length}
use Rattle.layout.specs.declared.Field.{Field}
use Rattle.layout.specs.Shape.{Shape}
use Rattle.layout.specs.Walk.{Content}
use Rattle.layout.specs.Write.{field_content, contents_of, entry_bytes, entries_bytes}
use Rattle.layout.specs.Each.{Each}

-- the bytes of the entry that a field makes, and of those that fields make
abbrev pub field_bytes : Shape → List ℕ → Field → List ℕ
field_bytes S values x = entry_bytes S (field_content S values x)

abbrev pub fields_bytes : Shape → List ℕ → List Field → List ℕ
fields_bytes S values xs = entries_bytes S (contents_of S values xs)

-- an entry's code is a byte, and its value meets the rule on lengths
abbrev pub Puttable : Shape → Content → Type 0
Puttable S c = (c.code < 256) × (S.length_rule c.code (length c.value) ≡ true)

abbrev pub AllPuttable : Shape → List ℕ → List Field → Type 0
AllPuttable S values xs = Each (Puttable S) (contents_of S values xs)
