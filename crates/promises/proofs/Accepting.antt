-- What an accepted image's calls answer.
-- Assumes nothing.
use Prim.Native.Nat.{ℕ}
use mathlib.Core.Path.{◌≡◌, refl, ap, sym, ◌∙◌}
use mathlib.Core.List.{List, ◌++◌, map, append-nil}
use mathlib.Core.Bool.{false}
use native.Mathlib.Omega.{arith}
use lib.ListN.{length, drop}
use lib.Seq.{drop-length}
use borrow.Author.Tests.{le-leb}
use Rattle.layout.specs.declared.Format.{Format}
use Rattle.layout.specs.declared.Entry.{Entry}
use Rattle.layout.specs.Editions.{shape}
use Rattle.layout.specs.Walk.{Raw, Content, content, flat}
use Rattle.layout.specs.Calls.{entries_of, check_image, list_entries}
use Rattle.laws.specs.Contents.{said}
use Rattle.laws.proofs.Records.{records-said, entries-count}
use Rattle.laws.proofs.Formats.{laws}
use Rattle.laws.proofs.Calls.{Reading, check-found}
use Rattle.promises.specs.Words.{Counts, Lists, Reads, tells_check}
use Rattle.promises.proofs.Telling.{counts-accepted}

module _ (f e : ℕ) (image : List ℕ) (g : Format) (start : ℕ) (rs : List Raw) (r : Reading f e image g start rs) where
  pub accepts : Counts (tells_check f e image) (length rs)
  unfolding check_image
  accepts = rw r.read

  pub lists : Lists f e image (entries_of (shape g) e start rs)
  unfolding list_entries
  lists records le =
      let fits = le-leb (length (entries_of (shape g) e start rs)) (length records) le in
      (rw (r.read, fits), rw (r.read, fits))

  pub records-say : map (said image) (entries_of (shape g) e start rs) ≡ map content rs
  records-say =
      let m = r.made in
      rw m.is (records-said (laws g) e false rs start ((shape g).header (length (flat rs))) _ m.frames (sym m.starts))

  pub reads : Reads f e image (map content rs)
  reads =
      record {
        entries = entries_of (shape g) e start rs;
        accepted = rw (entries-count (shape g) e start rs) accepts;
        listed = lists;
        says = records-say;
      }

-- ---- from what an image reads as

-- what an image is read as whose list says cs
pub record ReadsAs (f e : ℕ) (image : List ℕ) (cs : List Content) : Type 0 where
  pub format : Format
  pub start : ℕ
  pub raws : List Raw
  pub reading : Reading f e image format start raws
  pub says : map content raws ≡ cs

-- two lists of one image are the same
lists-same : (f e : ℕ) (image : List ℕ) (xs ys : List Entry) → length xs ≡ length ys → Lists f e image xs → Lists f e image ys → xs ≡ ys
lists-same f e image xs ys q x y =
    let filled : (zs : List Entry) → length zs ≡ length xs → Lists f e image zs → (list_entries f e image xs).records ≡ zs
    = λ zs l z. (z xs (omega arith)).1 ∙ ap (λ (n : ℕ). zs ++ drop n xs) l ∙ ap (λ (t : List Entry). zs ++ t) (drop-length xs) ∙ append-nil zs in
    sym (filled xs refl x) ∙ filled ys (sym q) y

pub reads_as : (f e : ℕ) (image : List ℕ) (cs : List Content) → Reads f e image cs → ReadsAs f e image cs
reads_as f e image cs r =
    let x = check-found f e image (length r.entries) (counts-accepted f e image (length r.entries) r.accepted) in
    let g = x.format in
    let xs : List Entry = entries_of (shape g) e x.start x.raws in
    let same : xs ≡ r.entries
    = lists-same f e image xs r.entries (entries-count (shape g) e x.start x.raws ∙ sym x.count) (lists f e image g x.start x.raws x.reading) r.listed in
    record {
      format = g;
      start = x.start;
      raws = x.raws;
      reading = x.reading;
      says = sym (records-say f e image g x.start x.raws x.reading) ∙ ap (map (said image)) same ∙ r.says;
    }
