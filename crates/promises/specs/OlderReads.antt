-- Promise 4, older reads (demand 3): what a newer edition accepts, an older one that has the format accepts, and both give the same codes, keys and values.
-- Assumes nothing.
use Rattle.std.specs.Prelude.{ℕ, ◌≤◌, ◌≡◌, List, [], ◌∷◌, length}
use Rattle.layout.specs.declared.Format.{Format}
use Rattle.layout.specs.declared.Entry.{Entry}
use Rattle.layout.specs.declared.Reading.TheVariants.{Plain}
use Rattle.laws.specs.Contents.{said}
use Rattle.promises.specs.Words.{Serves, Counts, Lists, tells_check}
use Rattle.promises.specs.Names.{Named}

-- an older edition's record of an entry, beside a newer one's
pub record Alike (format : Format) (o : ℕ) (image : List ℕ) (old new : Entry) : Type 0 where
  pub says : said image old ≡ said image new
  pub place : old.place ≡ new.place
  pub size : old.size ≡ new.size
  pub key : old.key ≡ new.key
  pub value : old.value ≡ new.value
  -- an entry that the older edition names has the same kind and reading
  pub kept : Named format o old.code → (old.kind ≡ new.kind) × (old.reading ≡ new.reading)
  -- any other has kind 0 and plain bytes
  pub plain : (Named format o old.code → ⊥) → (old.kind ≡ 0) × (old.reading ≡ Plain)

pub data AllAlike (format : Format) (o : ℕ) (image : List ℕ) : List Entry → List Entry → Type 0 where
  none : AllAlike format o image [] []
  also : {x y : Entry} {xs ys : List Entry} → Alike format o image x y → AllAlike format o image xs ys → AllAlike format o image (x ∷ xs) (y ∷ ys)

pub record Older (f o n : ℕ) (image : List ℕ) (count : ℕ) : Type 0 where
  pub format : Format
  pub serves : Serves f o format
  pub accepted : Counts (tells_check f o image) count
  pub older : List Entry
  pub newer : List Entry
  pub counted : (length older ≡ count) × (length newer ≡ count)
  pub listed : Lists f o image older × Lists f n image newer
  pub alike : AllAlike format o image older newer

-- o and n are editions that have the format, o no newer than n; that n is one follows from its acceptance
abbrev pub OlderReads : Type 0
OlderReads = (f o n : ℕ) (format : Format) (image : List ℕ) (count : ℕ) → Serves f o format → o ≤ n → Counts (tells_check f n image) count → Older f o n image count
