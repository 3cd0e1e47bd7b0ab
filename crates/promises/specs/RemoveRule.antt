-- A removal (02, "Add and remove fields"): what is put out, what it tells of an accepted image, by the table and in its order, and that it undoes an addition.
-- Assumes nothing.
use Rattle.std.specs.Prelude.{ℕ, ◌+◌, ◌-◌, ◌≤◌, ◌≡◌, List, [], ◌∷◌, ◌++◌, true, false, length, take}
use Rattle.layout.specs.declared.Format.{Format}
use Rattle.layout.specs.declared.Entry.{Entry}
use Rattle.layout.specs.declared.Field.{Field}
use Rattle.layout.specs.Bytes.{one_of, refusal}
use Rattle.layout.specs.Editions.{shape}
use Rattle.layout.specs.Walk.{Content}
use Rattle.layout.specs.Calls.{Told, told_refusal}
use Rattle.layout.specs.Add.{add_field}
use Rattle.layout.specs.Remove.{remove_entry}
use Rattle.laws.specs.Grammar.{grammar, EntryOf}
use Rattle.promises.specs.Words.{Serves, Counts, Item, Reads, tells_check, tells_add, tells_remove}
use Rattle.promises.specs.Names.{Named}
use Rattle.promises.specs.Listing.{ListOf}
use Rattle.promises.specs.RoundTrip.{field_says}
use Rattle.promises.specs.Written.{Written, entries_size, end_size, Fits}
use Rattle.promises.specs.Writing.{required}
use Rattle.promises.specs.Relaid.{Relaid}

-- ---- what a removal puts out

-- an image without its entry i, which the edition names: i entries stand before it, and the others are kept
pub record RemovedFrom (f e : ℕ) (image : List ℕ) (i : ℕ) (out : List ℕ) (m : ℕ) : Type 0 where
  pub format : Format
  -- what the entries before say, which are i, and those after
  pub contents : List Content
  pub counted : length contents ≡ i
  pub later : List Content
  -- what the entry says, and its bytes
  pub content : Content
  pub bytes : List ℕ
  pub entry : EntryOf (grammar format) bytes content
  pub named : Named format e content.code
  pub relaid : Relaid f e image format contents later content.code bytes [] (remove_entry f e image i out).memory out m

-- ---- what it tells

-- how long the image becomes whose entries end at `end`, without this one
abbrev pub removed_size : Format → ℕ → Entry → ℕ
removed_size format end y = end - y.size + end_size format

-- of entry i of an accepted image: each line of the table where none before it holds, and the length of the image where none does
pub data RemoveTold (f e : ℕ) (image : List ℕ) (count : ℕ) (list : ListOf f e image count) (i : ℕ) (out : List ℕ) : Told → Type 0 where
  missing : count ≤ i → RemoveTold f e image count list i out (told_refusal (refusal 13 0))
  unnamed : (y : Entry) → Item list.entries i y → (Named list.format e y.code → ⊥) → RemoveTold f e image count list i out (told_refusal (refusal 14 y.place.0))
  needed : (y : Entry) → Item list.entries i y → Named list.format e y.code → one_of (required list.format) y.code ≡ true →
      RemoveTold f e image count list i out (told_refusal (refusal 11 0))
  too_long : (y : Entry) → Item list.entries i y → Named list.format e y.code → one_of (required list.format) y.code ≡ false →
      (Fits list.format (removed_size list.format list.end y) out → ⊥) → RemoveTold f e image count list i out (told_refusal (refusal 12 0))
  taken : {t : Told} (y : Entry) → Item list.entries i y → Named list.format e y.code → one_of (required list.format) y.code ≡ false →
      Fits list.format (removed_size list.format list.end y) out → Counts t (removed_size list.format list.end y) → RemoveTold f e image count list i out t

-- the removals from an accepted image; from a refused one every removal is refused (Lookups; where the output is too long, Asked)
pub record Removes (f e : ℕ) (image : List ℕ) (count : ℕ) : Type 0 where
  pub list : ListOf f e image count
  pub tells : (i : ℕ) (out : List ℕ) → length out ≤ 65536 → RemoveTold f e image count list i out (tells_remove f e image i out)

pub record RemoveRule : Type 0 where
  pub puts : (f e : ℕ) (image : List ℕ) (i : ℕ) (out : List ℕ) (m : ℕ) → Counts (tells_remove f e image i out) m → RemovedFrom f e image i out m
  pub removes : (f e : ℕ) (image : List ℕ) (count : ℕ) → Counts (tells_check f e image) count → Removes f e image count

-- ---- an addition undone

-- the removal of entry i of this image by edition r is taken, and is the image that the writer makes of these bytes of entries; edition n reads cs there, whole and up to the length given
pub record Undone (f r n : ℕ) (format : Format) (image : List ℕ) (i : ℕ) (out entries : List ℕ) (cs : List Content) : Type 0 where
  pub long : ℕ
  pub taken : Counts (tells_remove f r image i out) long
  pub written : Written format entries (take long (remove_entry f r image i out).memory)
  pub whole : Reads f n (remove_entry f r image i out).memory cs
  pub front : Reads f n (take long (remove_entry f r image i out).memory) cs

-- edition n read `former` in an image of these bytes of entries, and reads `latter` after edition e has added an entry that says c, which is the one of this number. Every edition r that names
-- it, no newer than n, removes it again, from the whole output and from its part up to the length given, into any output that has room for the rest; and n reads its former list
pub record AddUndone (f n : ℕ) (image : List ℕ) (c : Content) (output : List ℕ) (m : ℕ) : Type 0 where
  pub format : Format
  pub former : List Content
  pub before : Reads f n image former
  pub entries : List ℕ
  pub rest : List ℕ
  pub stood : image ≡ (shape format).header (length entries) ++ (entries ++ rest)
  pub latter : List Content
  pub after : Reads f n output latter
  pub number : ℕ
  pub there : Item latter number c
  pub whole : (r : ℕ) → Serves f r format → r ≤ n → Named format r c.code → (out : List ℕ) → m ≤ length out + entries_size format (c ∷ []) → length out ≤ 65536 →
      Undone f r n format output number out entries former
  pub front : (r : ℕ) → Serves f r format → r ≤ n → Named format r c.code → (out : List ℕ) → m ≤ length out + entries_size format (c ∷ []) → length out ≤ 65536 →
      Undone f r n format (take m output) number out entries former

abbrev pub AddsUndone : Type 0
AddsUndone =
    (f e n : ℕ) (image : List ℕ) (count : ℕ) (x : Field) (more : List Field) (values out : List ℕ) (m : ℕ) → e ≤ n → Counts (tells_check f n image) count →
    Counts (tells_add f e image (x ∷ more) values out) m → AddUndone f n image (field_says f values x) (add_field f e image (x ∷ more) values out).memory m
