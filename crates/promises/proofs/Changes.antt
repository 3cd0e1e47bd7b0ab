-- What a change that is not refused has found and left, be it an edit, an addition or a removal.
-- Assumes nothing.
use Prim.Native.Nat.{ℕ, ◌≤◌}
use mathlib.Core.Path.{◌≡◌, refl}
use mathlib.Core.List.{List}
use mathlib.Core.Bool.{Bool, true, false, ◌||◌}
use native.Mathlib.Omega.{arith}
use lib.ListN.{length}
use lib.Dec.{ltb}
use borrow.Author.Tests.{ltb-false}
use Rattle.std.specs.Prelude.{Ok, Err}
use Rattle.layout.specs.declared.Format.{Format}
use Rattle.layout.specs.declared.Field.{Field}
use Rattle.layout.specs.Answers.{Chosen}
use Rattle.layout.specs.Bytes.{if, refusal}
use Rattle.layout.specs.Shape.{Shape}
use Rattle.layout.specs.Editions.{shape, chosen}
use Rattle.layout.specs.Walk.{Raw}
use Rattle.layout.specs.Read.{limit, Read, accepted, refused, read_as, read_image}
use Rattle.layout.specs.Write.{Outcome, refuse}
use Rattle.layout.specs.Change.{laid, laid_out, Allowed, allowed, denied, Change, change_allowed, change_read, change_chosen, change_image}
use Rattle.layout.specs.Edit.{edit}
use Rattle.layout.specs.Add.{addition}
use Rattle.layout.specs.Remove.{removal}
use Rattle.laws.proofs.Calls.{Reading, accepted-reading, change-read}
use Rattle.promises.specs.Words.{Counts, tells_edit, tells_add, tells_remove}
use Rattle.promises.proofs.WriteCalls.{edited-low, added-low, removed-low}
use Rattle.promises.proofs.Telling.{counts-changed}
use Rattle.promises.proofs.Output.{entries-shorter, Took, put-took, never-unwritten}

pub record Done (x : Change) (f e : ℕ) (image out : List ℕ) (m : ℕ) : Type 0 where
  pub format : Format
  pub start : ℕ
  pub raws : List Raw
  pub reading : Reading f e image format start raws
  pub short : length out ≤ limit
  pub asked : x.asks (shape format) e start raws ≡ allowed
  pub took : Took (shape format) (laid_out (shape format) (x.entries (shape format) raws)) out m (change_image x f e image out).memory

-- the entries that it has laid out fit an image
pub entries_fit : {x : Change} {f e : ℕ} {image out : List ℕ} {m : ℕ} (d : Done x f e image out m) → length (laid (x.entries (shape d.format) d.raws)) ≤ limit
entries_fit {x = x} d =
    let S : Shape = shape d.format in
    omega (arith, entries-shorter S (laid (x.entries S d.raws)), d.took.fits, d.short)

module _ (x : Change) (f e : ℕ) (image out : List ℕ) (m : ℕ) where
  -- its output is not too long
  change-short : (change_image x f e image out).answer ≡ Ok m → length out ≤ limit
  unfolding change_image
  change-short q = choose (chosen f e) q
    where
      tests : (g : Format) (s t : Bool) → ltb limit (length out) ≡ t →
          (if {A = Outcome} (s || t) (λ _. refuse (refusal 2 0) out) (λ _. change_read (read_as g e image) x e out)).answer ≡ Ok m → length out ≤ limit
      tests g true t l q = never-unwritten q
      tests g false true l q = never-unwritten q
      tests g false false l q = ltb-false limit (length out) l

      choose : (y : Chosen) → (change_chosen y x e image out).answer ≡ Ok m → length out ≤ limit
      choose (Ok g) q = tests g (ltb limit (length image)) (ltb limit (length out)) refl q
      choose (Err n) q = never-unwritten q

  pub change-done : (change_image x f e image out).answer ≡ Ok m → Done x f e image out m
  change-done q = reads (read_image f e image) refl (rw by_read at q)
    where
      short : length out ≤ limit
      short = change-short q

      by_read : change_image x f e image out ≡ change_read (read_image f e image) x e out
      by_read = change-read x f e image out short

      allows : (g : Format) (start : ℕ) (rs : List Raw) (a : Allowed) → read_image f e image ≡ accepted g start rs → x.asks (shape g) e start rs ≡ a →
          (change_allowed a (shape g) (x.entries (shape g) rs) out).answer ≡ Ok m → Done x f e image out m
      allows g start rs allowed r a q =
          record {
            format = g;
            start = start;
            raws = rs;
            reading = accepted-reading f e image g start rs r;
            short = short;
            asked = a;
            took = rw (by_read, r, a) (put-took (shape g) (laid_out (shape g) (x.entries (shape g) rs)) out m q);
          }
      allows g start rs (denied y) r a q = never-unwritten q

      reads : (y : Read) → read_image f e image ≡ y → (change_read y x e out).answer ≡ Ok m → Done x f e image out m
      reads (accepted g start rs) r q = allows g start rs (x.asks (shape g) e start rs) r refl q
      reads (refused y) r q = never-unwritten q

-- ---- the three

pub edit-done : (f e : ℕ) (image : List ℕ) (i : ℕ) (v out : List ℕ) (m : ℕ) → Counts (tells_edit f e image i v out) m → Done (edit i v) f e image out m
edit-done f e image i v out m q = change-done (edit i v) f e image out m (counts-changed (edit i v) f e image out (edited-low f e image i v out) m q)

pub add_done : (f e : ℕ) (image : List ℕ) (xs : List Field) (values out : List ℕ) (m : ℕ) → Counts (tells_add f e image xs values out) m → Done (addition xs values) f e image out m
add_done f e image xs values out m q = change-done (addition xs values) f e image out m (counts-changed (addition xs values) f e image out (added-low f e image xs values out) m q)

pub remove-done : (f e : ℕ) (image : List ℕ) (i : ℕ) (out : List ℕ) (m : ℕ) → Counts (tells_remove f e image i out) m → Done (removal i) f e image out m
remove-done f e image i out m q = change-done (removal i) f e image out m (counts-changed (removal i) f e image out (removed-low f e image i out) m q)
