-- Entry, value and walk belong to the list: entry n is the list's record n, its value is that record's, and a walk gives the records one by one.
-- Assumes nothing.
use Rattle.std.specs.Prelude.{ℕ, zero, suc, ◌+◌, ◌-◌, ◌≤◌, ◌<◌, ◌≡◌, List, [], ◌∷◌, ◌++◌, map, length, take, replicate}
use Rattle.layout.specs.declared.Entry.{Entry}
use Rattle.layout.specs.declared.Field.{Field}
use Rattle.layout.specs.Answers.{Located}
use Rattle.layout.specs.Bytes.{part_at, refusal}
use Rattle.layout.specs.Read.{limit}
use Rattle.layout.specs.Calls.{Told, told, told_refusal, told_lookup, told_located, bytes_at, verdict, value_at, string_at, step_from}
use Rattle.laws.specs.Contents.{said}
use Rattle.promises.specs.Words.{Counts, Refuses, IsRefused, Item, Lists, tells_check, tells_list, tells_entry, tells_value, tells_edit, tells_add, tells_remove}

-- ---- a walk, step by step over one image

-- what k steps tell, of a walk whose entry number is n
unfoldable pub told_by_steps : ℕ → ℕ → List ℕ → ℕ → ℕ → List Told
told_by_steps f e image n zero = []
told_by_steps f e image n (suc k) = told_lookup (step_from f e n image).answer ∷ told_by_steps f e image (step_from f e n image).next k

-- the entry number of the walk that the last of k steps hands back
unfoldable pub number_after : ℕ → ℕ → List ℕ → ℕ → ℕ → ℕ
number_after f e image n zero = n
number_after f e image n (suc k) = number_after f e image (step_from f e n image).next k

-- ---- an accepted image

-- what one record given tells
abbrev pub given : Entry → Told
given x = told 1 (part_at 0 0) (x ∷ [])

-- the calls for one entry, beside the list of an image with n entries
pub record OneByOne (f e : ℕ) (image : List ℕ) (n : ℕ) : Type 0 where
  pub entries : List Entry
  pub counted : length entries ≡ n
  pub listed : Lists f e image entries
  -- 12 exactly where there are fewer records than entries
  pub too_few : (records : List Entry) → length records < n → Refuses (tells_list f e image records) 12 0
  -- entry i is the list's record i, and there is none exactly from n on
  pub entry : (i : ℕ) (x : Entry) → Item entries i x → tells_entry f e image i ≡ given x
  pub no_entry : (i : ℕ) → n ≤ i → Refuses (tells_entry f e image i) 13 0
  -- value i is that record's value
  pub value : (i : ℕ) (x : Entry) → Item entries i x → tells_value f e image i ≡ told x.value.len x.value []
  pub value_bytes : (i : ℕ) (x : Entry) → Item entries i x → bytes_at image (value_at f e image i) ≡ (said image x).value
  pub no_value : (i : ℕ) → n ≤ i → Refuses (tells_value f e image i) 13 0
  -- any number of steps from 0 gives the list's records in order and then 13, where the walk stays
  pub walked : (k : ℕ) → told_by_steps f e image 0 k ≡ take k (map given entries) ++ replicate (k - n) (told_refusal (refusal 13 0))
  pub moves : (k : ℕ) → k ≤ n → number_after f e image 0 k ≡ k
  pub stays : (k : ℕ) → n ≤ k → number_after f e image 0 k ≡ n

-- ---- any image

-- every call on an image that the check refuses is refused alike; an edit, an addition and a removal, where the output is not too long
pub record AsChecked (f e : ℕ) (image : List ℕ) : Type 0 where
  pub listed : (records : List Entry) → tells_list f e image records ≡ tells_check f e image
  pub entry : (n : ℕ) → tells_entry f e image n ≡ tells_check f e image
  pub value : (n : ℕ) → tells_value f e image n ≡ tells_check f e image
  pub edited : (i : ℕ) (v out : List ℕ) → length out ≤ limit → tells_edit f e image i v out ≡ tells_check f e image
  pub added : (fields : List Field) (values out : List ℕ) → length out ≤ limit → tells_add f e image fields values out ≡ tells_check f e image
  pub removed : (i : ℕ) (out : List ℕ) → length out ≤ limit → tells_remove f e image i out ≡ tells_check f e image

-- a step answers as entry n on the image lent to it, and moves the walk on by one exactly where it is not refused
pub record StepRule (f e n : ℕ) (image : List ℕ) : Type 0 where
  pub answers : told_lookup (step_from f e n image).answer ≡ tells_entry f e image n
  pub onward : (tells_entry f e image n).number ≡ 0 → (step_from f e n image).next ≡ n + 1
  pub unmoved : IsRefused (tells_entry f e image n) → (step_from f e n image).next ≡ n

-- a call that gives a part gives it alone, and another of the same arguments gives number and place: of a value, and of a string
pub record Twin (image : List ℕ) (x : Located) : Type 0 where
  pub number : (verdict x).number ≡ (told_located x).number
  pub place : (verdict x).place.0 ≡ (told_located x).place
  pub empty : IsRefused (told_located x) → bytes_at image x ≡ []

pub record Lookups : Type 0 where
  pub accepted : (f e : ℕ) (image : List ℕ) (n : ℕ) → Counts (tells_check f e image) n → OneByOne f e image n
  pub refused : (f e : ℕ) (image : List ℕ) → IsRefused (tells_check f e image) → AsChecked f e image
  pub stepped : (f e n : ℕ) (image : List ℕ) → StepRule f e n image
  pub value : (f e : ℕ) (image : List ℕ) (n : ℕ) → Twin image (value_at f e image n)
  pub string : (f e : ℕ) (image : List ℕ) (number : ℕ) → Twin image (string_at f e image number)
