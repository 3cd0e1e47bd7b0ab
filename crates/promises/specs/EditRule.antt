-- Promise 6, the edit rule: every other entry's bytes are kept, in order; the value's length has its shortest form; the end is the writer's; then all is FFh.
-- An edit is taken exactly where the image is accepted, the entry is there and named, the value meets its rule (Rules), and it fits an output of at most 65,536 bytes.
-- Assumes nothing.
use Rattle.std.specs.Prelude.{ℕ, ◌+◌, ◌-◌, ◌≤◌, ◌≡◌, List, ◌++◌, true, length}
use Rattle.layout.specs.declared.Format.{Format}
use Rattle.layout.specs.declared.Format.TheVariants.{Fboss, Vpd, Tiny, Onie}
use Rattle.layout.specs.declared.Entry.{Entry}
use Rattle.layout.specs.Editions.{shape}
use Rattle.layout.specs.Walk.{Content}
use Rattle.layout.specs.Edit.{edit_rule, edit_entry}
use Rattle.laws.specs.Grammar.{grammar}
use Rattle.promises.specs.Words.{Counts, Item, tells_check, tells_edit}
use Rattle.promises.specs.Names.{Named}
use Rattle.promises.specs.Listing.{ListOf}
use Rattle.promises.specs.Relaid.{Relaid}
use Rattle.promises.specs.Written.{ShortLength, length_size, end_size, Fits}

-- ---- what an edit puts out

-- an image with the value of entry i edited to v
pub record Edited (f e : ℕ) (image : List ℕ) (i : ℕ) (v out : List ℕ) (m : ℕ) : Type 0 where
  pub format : Format
  -- what the entries before say, which are i, and those after
  pub contents : List Content
  pub counted : length contents ≡ i
  pub later : List Content
  -- the entry: what opens it, and the bytes of its length and of its value, old and new
  pub code : ℕ
  pub key : List ℕ
  pub front : List ℕ
  pub old_lens : List ℕ
  pub old_value : List ℕ
  pub new_lens : List ℕ
  pub opens : (grammar format).Opening front code key
  pub says_old : (grammar format).Says code old_lens (length old_value)
  pub says_new : ShortLength format code new_lens (length v)
  pub relaid : Relaid f e image format contents later code (front ++ (old_lens ++ old_value)) (front ++ (new_lens ++ v)) (edit_entry f e image i v out).memory out m

-- ---- which edits are taken

-- where the length of an entry's value begins: after the key, and without keys after the code
abbrev pub length_place : Format → Entry → ℕ
length_place Fboss x = x.place.0 + 1
length_place Vpd x = x.key.place.0 + x.key.len
length_place Tiny x = x.place.0 + 1
length_place Onie x = x.place.0 + 1

-- how long the image becomes whose entries end at `end`, with a value of n bytes for this one
abbrev pub edited_size : Format → ℕ → Entry → ℕ → ℕ
edited_size format end x n = end - (x.value.place.0 + x.value.len - length_place format x) + length_size format x.code n + n + end_size format

pub record Editable (f e : ℕ) (image : List ℕ) (count : ℕ) (list : ListOf f e image count) (i : ℕ) (v out : List ℕ) : Type 0 where
  pub entry : Entry
  pub there : Item list.entries i entry
  pub named : Named list.format e entry.code
  pub ruled : edit_rule (shape list.format) entry.code v ≡ true
  pub short : length out ≤ 65536
  pub fits : Fits list.format (edited_size list.format list.end entry (length v)) out

-- the edits of an accepted image; of a refused one every edit is refused (Lookups; where the output is too long, Asked)
pub record Edits (f e : ℕ) (image : List ℕ) (count : ℕ) : Type 0 where
  pub list : ListOf f e image count
  pub taken_is : (i : ℕ) (v out : List ℕ) → (tells_edit f e image i v out).number ≡ 0 → Editable f e image count list i v out
  pub is_taken : (i : ℕ) (v out : List ℕ) (x : Editable f e image count list i v out) →
      Counts (tells_edit f e image i v out) (edited_size list.format list.end x.entry (length v))

pub record EditRule : Type 0 where
  pub puts : (f e : ℕ) (image : List ℕ) (i : ℕ) (v out : List ℕ) (m : ℕ) → Counts (tells_edit f e image i v out) m → Edited f e image i v out m
  pub edits : (f e : ℕ) (image : List ℕ) (count : ℕ) → Counts (tells_check f e image) count → Edits f e image count
