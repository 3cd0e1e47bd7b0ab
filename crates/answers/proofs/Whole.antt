-- No call's packed answer loses anything.
-- Assumes nothing.
use Prim.Native.Nat.{ℕ, ◌<◌}
use mathlib.Core.Path.{◌≡◌, refl}
use mathlib.Core.List.{List, [], ◌∷◌}
use mathlib.Core.Bool.{true}
use native.Mathlib.Omega.{arith}
use lib.ListN.{length}
use Rattle.std.specs.Prelude.{Ok, Err}
use Rattle.layout.specs.Answers.{Checked, Lookup, Located, Made}
use Rattle.layout.specs.declared.Refusal.{Refusal}
use Rattle.layout.specs.Bytes.{between, all, one_of, part_at, refusal}
use Rattle.layout.specs.Calls.{told_refusal, told_checked, told_lookup, told_located, entries_in, check_image, entry_at, value_at, string_at}
use Rattle.layout.specs.Write.{fields_in, write_image, told_made}
use Rattle.layout.specs.Edit.{edit_entry}
use Rattle.layout.specs.Add.{add_field}
use Rattle.layout.specs.Remove.{remove_entry}
use Rattle.fields.proofs.Lists.{how-many}
use Rattle.promises.specs.Numbers.{image_numbers, write_numbers, change_numbers}
use Rattle.promises.proofs.FormatNumbers.{Low}
use Rattle.promises.proofs.Refusals.{farthest}
use Rattle.promises.proofs.Entries.{CheckedIn, LookupIn, LocatedIn}
use Rattle.promises.proofs.ReadCalls.{entries-few, checked-in, entry_in, value_in, string-in}
use Rattle.promises.proofs.WriteCalls.{MadeLow, edited-low, added-low, removed-low, written_low}
use Rattle.answers.specs.Whole.{Whole, WholeReads, WholeWrites}
use Rattle.answers.proofs.Packing.{whole-refusal, whole-told}

-- ---- by what a call answers

refusal-whole : (numbers : List ℕ) (r : Refusal) → all (between 1 23) numbers ≡ true → Low numbers farthest r.number r.place.0 → Whole (told_refusal r)
refusal-whole numbers r table l = whole-refusal numbers farthest r table (omega arith) l

checked-whole : (x : Checked) → CheckedIn x → Whole (told_checked x)
unfolding all
checked-whole (Ok n) l = whole-told n (part_at 0 0) [] (omega arith) (omega arith)
checked-whole (Err r) l = refusal-whole image_numbers r refl l

lookup-whole : (x : Lookup) → LookupIn x → Whole (told_lookup x)
unfolding all
lookup-whole (Ok x) l = whole-told 1 (part_at 0 0) _ (omega arith) (omega arith)
lookup-whole (Err r) l = refusal-whole (13 ∷ image_numbers) r refl l

located-whole : (number : ℕ) (x : Located) → all (between 1 23) (number ∷ image_numbers) ≡ true → LocatedIn number x → Whole (told_located x)
located-whole number (Ok x) table l = whole-told x.len x [] (omega arith) (omega arith)
located-whole number (Err r) table l = refusal-whole (number ∷ image_numbers) r table l

pub made-whole : (numbers : List ℕ) (most : ℕ) (x : Made) → all (between 1 23) numbers ≡ true → most < 576460752303423488 → MadeLow numbers most x → Whole (told_made x)
made-whole numbers most (Ok n) table lt l = whole-told n (part_at 0 0) [] (omega arith) (omega arith)
made-whole numbers most (Err r) table lt l = whole-refusal numbers most r table lt l

-- ---- the calls

pub whole-reads : WholeReads
unfolding all one_of
whole-reads =
    record {
      checked = λ f e img. checked-whole (check_image f e img) (checked-in f e img);
      listed = λ f e img. let few = entries-few f e img in whole-told (length (entries_in f e img)) (part_at 0 0) (entries_in f e img) (omega arith) (omega arith);
      unlent = refusal-whole (12 ∷ image_numbers) (refusal 12 0) refl (record { number = refl; place = omega arith });
      entry = λ f e img n. lookup-whole (entry_at f e img n) (entry_in f e img n);
      value = λ f e img n. located-whole 13 (value_at f e img n) refl (value_in f e img n);
      string = λ f e img number. located-whole 15 (string_at f e img number) refl (string-in f e img number);
    }

pub whole-writes : WholeWrites
unfolding all
whole-writes =
    record {
      edited = λ f e img i v out. made-whole change_numbers farthest (edit_entry f e img i v out).answer refl (omega arith) (edited-low f e img i v out);
      added = λ f e img xs values out. made-whole change_numbers farthest (add_field f e img xs values out).answer refl (omega arith) (added-low f e img xs values out);
      removed = λ f e img i out. made-whole change_numbers farthest (remove_entry f e img i out).answer refl (omega arith) (removed-low f e img i out);
      written = λ f e xs values out lt. made-whole write_numbers (length xs) (write_image f e xs values out).answer refl lt (written_low f e xs values out);
      lent = λ f e fields values out lt.
          let xs = fields_in fields in
          made-whole write_numbers (length xs) (write_image f e xs values out).answer refl (omega (arith, how-many fields)) (written_low f e xs values out);
    }
