-- Promise 4 holds.
-- Assumes nothing.
use Prim.Native.Nat.{ℕ, ◌+◌, ◌≤◌}
use mathlib.Core.Path.{refl, sym, ◌∙◌}
use mathlib.Core.List.{List, [], ◌∷◌}
use Rattle.layout.specs.declared.Format.{Format}
use Rattle.layout.specs.Editions.{shape, kind}
use Rattle.layout.specs.Walk.{Raw}
use Rattle.layout.specs.Calls.{entry_of, entries_of}
use Rattle.laws.specs.Contents.{said}
use Rattle.laws.proofs.Judging.{names-up}
use Rattle.laws.proofs.Calls.{Found, check-found}
use Rattle.promises.specs.Words.{KnownEdition, Serves}
use Rattle.promises.specs.OlderReads.{Alike, AllAlike, none, also, Older, OlderReads}
use Rattle.laws.proofs.Records.{entries-count}
use Rattle.promises.proofs.Accepting.{accepts, lists}
use Rattle.promises.proofs.Telling.{serves-chosen, chosen-serves, counts-accepted}
use Rattle.promises.proofs.Naming.{named-names, unnamed-names}
use Rattle.promises.proofs.Older.{older-reading}

module _ (o n : ℕ) (image : List ℕ) (g : Format) (k : KnownEdition o) (le : o ≤ n) where
  entry-alike : (p : ℕ) (r : Raw) → Alike g o image (entry_of (shape g) o p r) (entry_of (shape g) n p r)
  unfolding entry_of said kind
  entry-alike p r =
      record {
        says = refl;
        place = refl;
        size = refl;
        key = refl;
        value = refl;
        kept = λ y.
            let old = named-names g o r.frame.code y in
            let new = names-up (shape g) o n r.frame.code le old in
            (rw (old, new), rw (old, new));
        plain = λ y. let old = unnamed-names g o r.frame.code k y in (rw old, rw old);
      }

  all_alike : (p : ℕ) (rs : List Raw) → AllAlike g o image (entries_of (shape g) o p rs) (entries_of (shape g) n p rs)
  unfolding entries_of
  all_alike p [] = none
  all_alike p (r ∷ rs) = also (entry-alike p r) (all_alike (p + r.frame.size) rs)

older : (f o n : ℕ) (format : Format) (image : List ℕ) (count : ℕ) → Serves f o format → o ≤ n → Found f n image count → Older f o n image count
older f o n format image count s le x =
    let g = x.format in
    let r = x.reading in
    let r' = older-reading f o n image g format x.start x.raws (serves-chosen s) le r in
    record {
      format = g;
      serves = chosen-serves f o g r'.known;
      accepted = rw x.count (accepts f o image g x.start x.raws r');
      older = entries_of (shape g) o x.start x.raws;
      newer = entries_of (shape g) n x.start x.raws;
      counted = (entries-count (shape g) o x.start x.raws ∙ sym x.count, entries-count (shape g) n x.start x.raws ∙ sym x.count);
      listed = (lists f o image g x.start x.raws r', lists f n image g x.start x.raws r);
      alike = all_alike o n image g s.edition le x.start x.raws;
    }

pub older-reads : OlderReads
older-reads f o n format image count s le q = older f o n format image count s le (check-found f n image count (counts-accepted f n image count q))
