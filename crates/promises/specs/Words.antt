-- Words that the promises share. They speak of an answer by what it tells (layout/specs/Calls.antt): a number, a place, a count, a part, and the entries given.
-- Assumes nothing.
use Rattle.std.specs.Prelude.{ℕ, zero, suc, ◌≤◌, ◌≡◌, List, [], ◌∷◌, ◌++◌, map, length, drop}
use Rattle.layout.specs.declared.Format.{Format}
use Rattle.layout.specs.declared.Format.TheVariants.{Fboss, Vpd, Tiny, Onie}
use Rattle.layout.specs.declared.Entry.{Entry}
use Rattle.layout.specs.declared.Field.{Field}
use Rattle.layout.specs.Bytes.{part_at, refusal}
use Rattle.layout.specs.Walk.{Content}
use Rattle.layout.specs.Calls.{Told, told, told_refusal, told_checked, told_lookup, told_located, check_image, list_entries, entry_at, value_at, string_at}
use Rattle.layout.specs.Write.{Outcome, write_image, told_made}
use Rattle.layout.specs.Edit.{edit_entry}
use Rattle.layout.specs.Add.{add_field}
use Rattle.layout.specs.Remove.{remove_entry}
use Rattle.laws.specs.Contents.{said}

-- ---- formats and editions

-- the number of a format: document 01's, and 4 of document 02's third item
pub data FormatNumber : ℕ → Format → Type 0 where
  fboss : FormatNumber 1 Fboss
  vpd : FormatNumber 2 Vpd
  tiny : FormatNumber 3 Tiny
  onie : FormatNumber 4 Onie

-- 01's term "edition": the known ones are 1 and 2, and 02's 3 and 4
abbrev pub KnownEdition : ℕ → Type 0
KnownEdition e = (1 ≤ e) × (e ≤ 4)

-- the first edition that has a format
abbrev pub first_edition : Format → ℕ
first_edition Fboss = 1
first_edition Vpd = 1
first_edition Tiny = 1
first_edition Onie = 3

-- a call's format number stands for this format, and its edition is known and has it
pub record Serves (f e : ℕ) (format : Format) : Type 0 where
  pub number : FormatNumber f format
  pub edition : KnownEdition e
  pub since : first_edition format ≤ e

-- ---- what the calls tell

abbrev pub tells_check : ℕ → ℕ → List ℕ → Told
tells_check f e image = told_checked (check_image f e image)

abbrev pub tells_list : ℕ → ℕ → List ℕ → List Entry → Told
tells_list f e image records = told_checked (list_entries f e image records).answer

abbrev pub tells_entry : ℕ → ℕ → List ℕ → ℕ → Told
tells_entry f e image n = told_lookup (entry_at f e image n)

abbrev pub tells_value : ℕ → ℕ → List ℕ → ℕ → Told
tells_value f e image n = told_located (value_at f e image n)

abbrev pub tells_string : ℕ → ℕ → List ℕ → ℕ → Told
tells_string f e image number = told_located (string_at f e image number)

abbrev pub tells_write : ℕ → ℕ → List Field → List ℕ → List ℕ → Told
tells_write f e fields values out = told_made (write_image f e fields values out).answer

abbrev pub tells_edit : ℕ → ℕ → List ℕ → ℕ → List ℕ → List ℕ → Told
tells_edit f e image i v out = told_made (edit_entry f e image i v out).answer

abbrev pub tells_add : ℕ → ℕ → List ℕ → List Field → List ℕ → List ℕ → Told
tells_add f e image fields values out = told_made (add_field f e image fields values out).answer

abbrev pub tells_remove : ℕ → ℕ → List ℕ → ℕ → List ℕ → Told
tells_remove f e image i out = told_made (remove_entry f e image i out).answer

-- a call that makes another image of an image: an edit, an addition or a removal, by format, edition, image and output
abbrev pub Changes : Type 0
Changes = ℕ → ℕ → List ℕ → List ℕ → Outcome

abbrev pub tells_change : Changes → ℕ → ℕ → List ℕ → List ℕ → Told
tells_change call f e image out = told_made (call f e image out).answer

abbrev pub edits : ℕ → List ℕ → Changes
edits i v f e image out = edit_entry f e image i v out

abbrev pub adds : List Field → List ℕ → Changes
adds fields values f e image out = add_field f e image fields values out

abbrev pub removes : ℕ → Changes
removes i f e image out = remove_entry f e image i out

-- nothing is refused, and what is told is a count alone: of entries, or of the bytes of an image that was made
abbrev pub Counts : Told → ℕ → Type 0
Counts t n = t ≡ told n (part_at 0 0) []

-- the call is refused, with this number and this place
abbrev pub Refuses : Told → ℕ → ℕ → Type 0
Refuses t n p = t ≡ told_refusal (refusal n p)

-- the call is refused, whatever the number
abbrev pub IsRefused : Told → Type 0
IsRefused t = t.number ≡ 0 → ⊥

-- ---- lists

-- the item of this number, from 0
pub data Item {A : Type 0} : List A → ℕ → A → Type 0 where
  here : {x : A} {xs : List A} → Item (x ∷ xs) zero x
  there : {x y : A} {xs : List A} {n : ℕ} → Item xs n y → Item (x ∷ xs) (suc n) y

-- with room enough, the list call gives just these records, and leaves those beyond as they were
abbrev pub Lists : ℕ → ℕ → List ℕ → List Entry → Type 0
Lists f e image entries =
    (records : List Entry) → length entries ≤ length records →
    Counts (tells_list f e image records) (length entries) × ((list_entries f e image records).records ≡ entries ++ drop (length entries) records)

-- edition e accepts the image, and its list says these codes, keys and values, in order
pub record Reads (f e : ℕ) (image : List ℕ) (cs : List Content) : Type 0 where
  pub entries : List Entry
  pub accepted : Counts (tells_check f e image) (length entries)
  pub listed : Lists f e image entries
  pub says : map (said image) entries ≡ cs
