-- No call is refused but by its numbers.
-- Assumes nothing.
use Prim.Native.Nat.{ℕ}
use mathlib.Core.Path.{◌≡◌, refl}
use mathlib.Core.List.{List, ◌∷◌}
use lib.ListN.{length}
use lib.Dec.{leb}
use Rattle.std.specs.Prelude.{Ok, Err}
use Rattle.layout.specs.declared.Entry.{Entry}
use Rattle.layout.specs.Answers.{Checked, Lookup, Located, Made}
use Rattle.layout.specs.Bytes.{one_of}
use Rattle.layout.specs.Editions.{shape}
use Rattle.layout.specs.Read.{Read, accepted, refused, read_image}
use Rattle.layout.specs.Calls.{entries_of, check_image, Listed, listed_by, list_entries, entry_at, value_at, string_at, step_from, told_checked, told_lookup, told_located}
use Rattle.layout.specs.Write.{write_image, told_made}
use Rattle.layout.specs.Edit.{edit_entry}
use Rattle.layout.specs.Add.{add_field}
use Rattle.layout.specs.Remove.{remove_entry}
use Rattle.layout.proofs.Choices.{either}
use Rattle.promises.specs.Words.{tells_list}
use Rattle.promises.specs.Numbers.{Gives, taken, refused as refusedBy, image_numbers, write_numbers, change_numbers, CallNumbers}
use Rattle.promises.proofs.FormatNumbers.{Low}
use Rattle.promises.proofs.Refusals.{farthest, refused-low, wider}
use Rattle.promises.proofs.Entries.{CheckedIn, LookupIn, LocatedIn}
use Rattle.promises.proofs.ReadCalls.{checked-in, entry_in, value_in, string-in}
use Rattle.promises.proofs.WriteCalls.{MadeLow, edited-low, added-low, removed-low, written_low}

-- ---- by what a call answers

checked-gives : (x : Checked) → CheckedIn x → Gives image_numbers (told_checked x)
checked-gives (Ok n) l = taken
checked-gives (Err r) l = refusedBy l.number

lookup-gives : (x : Lookup) → LookupIn x → Gives (13 ∷ image_numbers) (told_lookup x)
lookup-gives (Ok x) l = taken
lookup-gives (Err r) l = refusedBy l.number

located-gives : (number : ℕ) (x : Located) → LocatedIn number x → Gives (number ∷ image_numbers) (told_located x)
located-gives number (Ok x) l = taken
located-gives number (Err r) l = refusedBy l.number

pub made-gives : (numbers : List ℕ) (most : ℕ) (x : Made) → MadeLow numbers most x → Gives numbers (told_made x)
made-gives numbers most (Ok n) l = taken
made-gives numbers most (Err r) l = refusedBy l.number

list-gives : (f e : ℕ) (image : List ℕ) (records : List Entry) → Gives (12 ∷ image_numbers) (tells_list f e image records)
unfolding list_entries one_of
list-gives f e image records = go (read_image f e image) refl
  where
    go : (x : Read) → read_image f e image ≡ x → Gives (12 ∷ image_numbers) (told_checked (listed_by x e records).answer)
    go (accepted g start rs) q =
        either (λ (x : Listed). Gives (12 ∷ image_numbers) (told_checked x.answer)) (leb (length (entries_of (shape g) e start rs)) (length records))
        (λ _. taken)
        (λ _. refusedBy refl)
    go (refused r) q = let l : Low (12 ∷ image_numbers) farthest r.number r.place.0 = wider (refused-low f e image r q) in refusedBy l.number

pub call-numbers : CallNumbers
unfolding step_from
call-numbers =
    record {
      checked = λ f e image. checked-gives (check_image f e image) (checked-in f e image);
      listed = list-gives;
      entry = λ f e image n. lookup-gives (entry_at f e image n) (entry_in f e image n);
      value = λ f e image n. located-gives 13 (value_at f e image n) (value_in f e image n);
      string = λ f e image number. located-gives 15 (string_at f e image number) (string-in f e image number);
      stepped = λ f e n image. lookup-gives (entry_at f e image n) (entry_in f e image n);
      written = λ f e fields values out. made-gives write_numbers (length fields) (write_image f e fields values out).answer (written_low f e fields values out);
      edited = λ f e image i v out. made-gives change_numbers farthest (edit_entry f e image i v out).answer (edited-low f e image i v out);
      added = λ f e image xs values out. made-gives change_numbers farthest (add_field f e image xs values out).answer (added-low f e image xs values out);
      removed = λ f e image i out. made-gives change_numbers farthest (remove_entry f e image i out).answer (removed-low f e image i out);
    }
