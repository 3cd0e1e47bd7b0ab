-- Which numbers of the table each call can give (docs/C-INTERFACE.md, "The order"), and what a refusal holds beside its number and its place.
-- Assumes nothing.
use Rattle.std.specs.Prelude.{ℕ, ◌≡◌, List, [], ◌∷◌, true}
use Rattle.layout.specs.declared.Part.{Part}
use Rattle.layout.specs.declared.Entry.{Entry}
use Rattle.layout.specs.declared.Field.{Field}
use Rattle.layout.specs.Bytes.{one_of, part_at}
use Rattle.layout.specs.Calls.{Told, told_lookup, step_from}
use Rattle.promises.specs.Words.{tells_check, tells_list, tells_entry, tells_value, tells_string, tells_write, tells_edit, tells_add, tells_remove}

-- a call that can be refused by these numbers alone: where it is not, number and place are 0; where it is, the count is 0, the part is empty and no entry is given
pub data Gives (numbers : List ℕ) : Told → Type 0 where
  taken : {n : ℕ} {x : Part} {es : List Entry} → Gives numbers (record { number = 0; place = 0; count = n; part = x; given = es })
  refused : {n p : ℕ} → one_of numbers n ≡ true → Gives numbers (record { number = n; place = p; count = 0; part = part_at 0 0; given = [] })

-- the numbers of an image's own refusals; none of these lists has a 0
abbrev pub image_numbers : List ℕ
image_numbers = 16 ∷ 1 ∷ 2 ∷ 3 ∷ 4 ∷ 5 ∷ 6 ∷ 9 ∷ 10 ∷ 7 ∷ 8 ∷ 11 ∷ []

abbrev pub write_numbers : List ℕ
write_numbers = 16 ∷ 1 ∷ 2 ∷ 14 ∷ 13 ∷ 9 ∷ 7 ∷ 8 ∷ 11 ∷ 12 ∷ []

-- of a change of an image: an edit, an addition, a removal
abbrev pub change_numbers : List ℕ
change_numbers = 13 ∷ 14 ∷ 12 ∷ image_numbers

-- what each call can give
pub record CallNumbers : Type 0 where
  pub checked : (f e : ℕ) (image : List ℕ) → Gives image_numbers (tells_check f e image)
  pub listed : (f e : ℕ) (image : List ℕ) (records : List Entry) → Gives (12 ∷ image_numbers) (tells_list f e image records)
  pub entry : (f e : ℕ) (image : List ℕ) (n : ℕ) → Gives (13 ∷ image_numbers) (tells_entry f e image n)
  pub value : (f e : ℕ) (image : List ℕ) (n : ℕ) → Gives (13 ∷ image_numbers) (tells_value f e image n)
  pub string : (f e : ℕ) (image : List ℕ) (number : ℕ) → Gives (15 ∷ image_numbers) (tells_string f e image number)
  pub stepped : (f e n : ℕ) (image : List ℕ) → Gives (13 ∷ image_numbers) (told_lookup (step_from f e n image).answer)
  pub written : (f e : ℕ) (fields : List Field) (values out : List ℕ) → Gives write_numbers (tells_write f e fields values out)
  pub edited : (f e : ℕ) (image : List ℕ) (i : ℕ) (v out : List ℕ) → Gives change_numbers (tells_edit f e image i v out)
  pub added : (f e : ℕ) (image : List ℕ) (fields : List Field) (values out : List ℕ) → Gives change_numbers (tells_add f e image fields values out)
  pub removed : (f e : ℕ) (image : List ℕ) (i : ℕ) (out : List ℕ) → Gives change_numbers (tells_remove f e image i out)
