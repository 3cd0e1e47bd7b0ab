-- A refused call changes nothing.
-- Assumes nothing.
use Prim.Native.Nat.{ℕ}
use mathlib.Core.Path.{◌≡◌, refl}
use mathlib.Core.List.{List, []}
use mathlib.Core.Bool.{false, ◌&&◌, ◌||◌}
use lib.ListN.{length}
use lib.Dec.{ltb, leb}
use Rattle.std.specs.Prelude.{Ok, Err}
use Rattle.layout.specs.declared.Entry.{Entry}
use Rattle.layout.specs.declared.Field.{Field}
use Rattle.layout.specs.Answers.{Chosen}
use Rattle.layout.specs.Shape.{Shape, Judged, fine, faulty}
use Rattle.layout.specs.Editions.{shape, chosen}
use Rattle.layout.specs.Walk.{Content}
use Rattle.layout.specs.Read.{limit, complete, Read, accepted, refused, read_as, read_image}
use Rattle.layout.specs.Calls.{entries_of, told_checked, Listed, listed_by, list_entries}
use Rattle.layout.specs.Write.{judge_fields, contents_of, content_codes, entries_bytes, image_of, Outcome, put, write_judged, write_as, write_chosen, write_image, told_made}
use Rattle.layout.specs.Change.{laid_out, Allowed, allowed, denied, Change, change_allowed, change_read, change_chosen, change_image}
use Rattle.layout.specs.Edit.{edit}
use Rattle.layout.specs.Add.{addition}
use Rattle.layout.specs.Remove.{removal}
use Rattle.layout.proofs.Choices.{either}
use Rattle.promises.specs.Words.{IsRefused, tells_list}
use Rattle.promises.specs.Unchanged.{Unchanged}

-- a call that is refused leaves this output
abbrev Leaves : List ℕ → Outcome → Type 0
Leaves out o = IsRefused (told_made o.answer) → o.memory ≡ out

put-leaves : (S : Shape) (image out : List ℕ) → Leaves out (put S image out)
unfolding put
put-leaves S image out =
    either (Leaves out) (leb (length image) S.most && leb (length image) (length out)) (λ _ h. absurd (h refl)) (λ _ h. refl)

write-leaves : (f e : ℕ) (fields : List Field) (values out : List ℕ) → Leaves out (write_image f e fields values out)
unfolding write_image write_as
write-leaves f e fields values out = choose (chosen f e)
  where
    judged : (S : Shape) (cs : List Content) (j : Judged) → Leaves out (write_judged j S cs out)
    judged S cs fine = either (Leaves out) (complete S.required (content_codes cs)) (λ _. put-leaves S (image_of S (entries_bytes S cs)) out) (λ _ h. refl)
    judged S cs (faulty n i) = λ h. refl

    choose : (x : Chosen) → Leaves out (write_chosen x e fields values out)
    choose (Ok g) =
        either (Leaves out) (ltb limit (length out)) (λ _ h. refl)
        (λ _. judged (shape g) (contents_of (shape g) values fields) (judge_fields (shape g) e values false [] fields 0))
    choose (Err n) = λ h. refl

change-leaves : (x : Change) (f e : ℕ) (image out : List ℕ) → Leaves out (change_image x f e image out)
unfolding change_image
change-leaves x f e image out = choose (chosen f e)
  where
    allows : (S : Shape) (entries : List (List ℕ)) (a : Allowed) → Leaves out (change_allowed a S entries out)
    allows S entries allowed = put-leaves S (laid_out S entries) out
    allows S entries (denied r) = λ h. refl

    reads : (y : Read) → Leaves out (change_read y x e out)
    reads (accepted g start rs) = allows (shape g) (x.entries (shape g) rs) (x.asks (shape g) e start rs)
    reads (refused r) = λ h. refl

    choose : (y : Chosen) → Leaves out (change_chosen y x e image out)
    choose (Ok g) = either (Leaves out) (ltb limit (length image) || ltb limit (length out)) (λ _ h. refl) (λ _. reads (read_as g e image))
    choose (Err n) = λ h. refl

list-leaves : (f e : ℕ) (image : List ℕ) (records : List Entry) → IsRefused (tells_list f e image records) → (list_entries f e image records).records ≡ records
unfolding list_entries
list-leaves f e image records = go (read_image f e image)
  where
    go : (x : Read) → IsRefused (told_checked (listed_by x e records).answer) → (listed_by x e records).records ≡ records
    go (accepted g start rs) =
        either (λ (x : Listed). IsRefused (told_checked x.answer) → x.records ≡ records) (leb (length (entries_of (shape g) e start rs)) (length records))
        (λ _ h. absurd (h refl))
        (λ _ h. refl)
    go (refused r) = λ h. refl

pub unchanged : Unchanged
unchanged =
    record {
      written = write-leaves;
      edited = λ f e image i v out. change-leaves (edit i v) f e image out;
      added = λ f e image xs values out. change-leaves (addition xs values) f e image out;
      removed = λ f e image i out. change-leaves (removal i) f e image out;
      listed = list-leaves;
    }
