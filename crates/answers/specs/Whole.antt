-- The packed answer loses nothing: C takes out of it what the call tells (docs/C-INTERFACE.md, "The answer").
-- Assumes nothing.
use Rattle.std.specs.Prelude.{ℕ, ◌/◌, ◌%◌, ◌<◌, ◌≡◌, List, length}
use Rattle.layout.specs.declared.Field.{Field}
use Rattle.layout.specs.Bytes.{part_at, refusal}
use Rattle.layout.specs.Calls.{Told, told, told_refusal, told_checked, told_lookup, told_located, check_image, entries_in, entry_at, value_at, string_at}
use Rattle.layout.specs.Write.{fields_in, write_image, told_made}
use Rattle.layout.specs.Edit.{edit_entry}
use Rattle.layout.specs.Add.{add_field}
use Rattle.layout.specs.Remove.{remove_entry}
use Rattle.records.specs.Packed.{packed}

-- ---- how C takes an answer apart

-- bits 59 to 63
abbrev pub number_of : ℕ → ℕ
number_of a = a / 576460752303423488

-- bits 0 to 58
abbrev pub place_of : ℕ → ℕ
place_of a = a % 576460752303423488

-- bits 32 to 58
abbrev pub count_of : ℕ → ℕ
count_of a = a / 4294967296 % 134217728

-- bits 0 to 31
abbrev pub part_of : ℕ → ℕ
part_of a = a % 4294967296

-- what C takes out of the packed answer is what was told: the number; the place of a refusal; else the count, and the place of the part
pub record Whole (t : Told) : Type 0 where
  pub number : number_of (packed t) ≡ t.number
  pub place : (t.number ≡ 0 → ⊥) → place_of (packed t) ≡ t.place
  pub count : t.number ≡ 0 → count_of (packed t) ≡ t.count
  pub part : t.number ≡ 0 → part_of (packed t) ≡ t.part.place.0

-- ---- the calls

-- the answers of the calls that read; a step of the walk answers as entry n
pub record WholeReads : Type 0 where
  pub checked : (f e : ℕ) (img : List ℕ) → Whole (told_checked (check_image f e img))
  pub listed : (f e : ℕ) (img : List ℕ) → Whole (told (length (entries_in f e img)) (part_at 0 0) (entries_in f e img))
  -- a list, an entry and a step with too few records lent
  pub unlent : Whole (told_refusal (refusal 12 0))
  pub entry : (f e : ℕ) (img : List ℕ) (n : ℕ) → Whole (told_lookup (entry_at f e img n))
  pub value : (f e : ℕ) (img : List ℕ) (n : ℕ) → Whole (told_located (value_at f e img n))
  pub string : (f e : ℕ) (img : List ℕ) (number : ℕ) → Whole (told_located (string_at f e img number))

-- the answers of the calls that make an image. The place in a write's refusal may be a field's number, so its list must have fewer than 2^59 fields.
-- A list in fewer than 2^63 lent bytes has fewer, as a field has 20 bytes
pub record WholeWrites : Type 0 where
  pub edited : (f e : ℕ) (img : List ℕ) (i : ℕ) (v out : List ℕ) → Whole (told_made (edit_entry f e img i v out).answer)
  pub added : (f e : ℕ) (img : List ℕ) (xs : List Field) (values out : List ℕ) → Whole (told_made (add_field f e img xs values out).answer)
  pub removed : (f e : ℕ) (img : List ℕ) (i : ℕ) (out : List ℕ) → Whole (told_made (remove_entry f e img i out).answer)
  pub written : (f e : ℕ) (xs : List Field) (values out : List ℕ) → length xs < 576460752303423488 → Whole (told_made (write_image f e xs values out).answer)
  pub lent : (f e : ℕ) (fields values out : List ℕ) → length fields < 9223372036854775808 → Whole (told_made (write_image f e (fields_in fields) values out).answer)
