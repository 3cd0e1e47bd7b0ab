-- An addition (02, "Add and remove fields"): what is put out, and what it tells of an accepted image, by the table and in its order.
-- Assumes nothing.
use Rattle.std.specs.Prelude.{ℕ, ◌+◌, ◌≤◌, ◌≡◌, List, [], ◌∷◌, ◌++◌, true, length}
use Rattle.layout.specs.declared.Format.{Format}
use Rattle.layout.specs.declared.Entry.{Entry}
use Rattle.layout.specs.declared.Field.{Field}
use Rattle.layout.specs.Bytes.{refusal}
use Rattle.layout.specs.Editions.{shape}
use Rattle.layout.specs.Walk.{Content}
use Rattle.layout.specs.Calls.{Told, told_refusal}
use Rattle.layout.specs.Write.{writer_rule}
use Rattle.layout.specs.Add.{add_field}
use Rattle.laws.specs.Contents.{said}
use Rattle.layout.specs.Each.{Each}
use Rattle.promises.specs.Words.{Counts, Item, tells_check, tells_add}
use Rattle.promises.specs.Names.{Named}
use Rattle.promises.specs.Listing.{ListOf}
use Rattle.promises.specs.RoundTrip.{field_says}
use Rattle.promises.specs.Written.{ShortEntry, entries_size, end_size, Fits}
use Rattle.promises.specs.Writing.{Inside, Again}
use Rattle.promises.specs.Relaid.{Relaid}
use Rattle.promises.specs.OlderChanges.{Added}

-- ---- what an addition puts out

-- an image with an entry more, which says c: no bytes open it or say its value's length shorter, and it stands last, in Tiny before a pool
pub record AddedTo (f e : ℕ) (image : List ℕ) (c : Content) (memory out : List ℕ) (m : ℕ) : Type 0 where
  pub format : Format
  -- what the entries before say, and those after
  pub contents : List Content
  pub later : List Content
  pub placed : Added f c (contents ++ later) (contents ++ (c ∷ later))
  pub bytes : List ℕ
  pub short : ShortEntry format bytes c
  pub relaid : Relaid f e image format contents later c.code [] bytes memory out m

-- ---- what it tells

-- how long the image becomes whose entries end at `end`, with an entry more that says c
abbrev pub added_size : Format → ℕ → Content → ℕ
added_size format end c = end + entries_size format (c ∷ []) + end_size format

-- of a field x that says c, and the list of an accepted image: each line of the table where none before it holds, and the length of the image where none does
pub data AddTold (f e : ℕ) (image : List ℕ) (count : ℕ) (list : ListOf f e image count) (values out : List ℕ) (x : Field) (c : Content) : Told → Type 0 where
  outside : (Inside list.format values x → ⊥) → AddTold f e image count list values out x c (told_refusal (refusal 13 0))
  unnamed : Inside list.format values x → (Named list.format e x.code → ⊥) → AddTold f e image count list values out x c (told_refusal (refusal 14 0))
  unruled : Inside list.format values x → Named list.format e x.code → (writer_rule (shape list.format) c ≡ true → ⊥) →
      AddTold f e image count list values out x c (told_refusal (refusal 7 0))
  again : Inside list.format values x → Named list.format e x.code → writer_rule (shape list.format) c ≡ true →
      (i : ℕ) (y : Entry) → Item list.entries i y → Again list.format c (said image y) → AddTold f e image count list values out x c (told_refusal (refusal 8 0))
  too_long : Inside list.format values x → Named list.format e x.code → writer_rule (shape list.format) c ≡ true →
      Each (λ y. Again list.format c (said image y) → ⊥) list.entries → (Fits list.format (added_size list.format list.end c) out → ⊥) →
      AddTold f e image count list values out x c (told_refusal (refusal 12 0))
  taken : {t : Told} → Inside list.format values x → Named list.format e x.code → writer_rule (shape list.format) c ≡ true →
      Each (λ y. Again list.format c (said image y) → ⊥) list.entries → Fits list.format (added_size list.format list.end c) out →
      Counts t (added_size list.format list.end c) → AddTold f e image count list values out x c t

-- the additions to an accepted image; to a refused one every addition is refused (Lookups; where the output is too long, Asked)
pub record Adds (f e : ℕ) (image : List ℕ) (count : ℕ) : Type 0 where
  pub list : ListOf f e image count
  pub no_field : (values out : List ℕ) → length out ≤ 65536 → tells_add f e image [] values out ≡ told_refusal (refusal 13 0)
  pub tells : (x : Field) (more : List Field) (values out : List ℕ) → length out ≤ 65536 → AddTold f e image count list values out x (field_says f values x) (tells_add f e image (x ∷ more) values out)

pub record AddRule : Type 0 where
  pub puts : (f e : ℕ) (image : List ℕ) (x : Field) (more : List Field) (values out : List ℕ) (m : ℕ) → Counts (tells_add f e image (x ∷ more) values out) m →
      AddedTo f e image (field_says f values x) (add_field f e image (x ∷ more) values out).memory out m
  pub adds : (f e : ℕ) (image : List ℕ) (count : ℕ) → Counts (tells_check f e image) count → Adds f e image count
