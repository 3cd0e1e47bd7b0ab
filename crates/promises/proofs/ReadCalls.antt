-- The calls that read: each gives a place, a count or a part of the image, or a refusal by one of its numbers.
-- Assumes nothing.
use Prim.Native.Nat.{ℕ, ◌≤◌}
use mathlib.Core.Path.{◌≡◌, refl}
use mathlib.Core.List.{List}
use mathlib.Core.Bool.{false}
use native.Mathlib.Omega.{arith}
use lib.ListN.{length}
use lib.Dec.{eqb}
use Rattle.std.specs.Prelude.{Ok, Err}
use Rattle.layout.specs.Answers.{Lookup}
use Rattle.layout.specs.Bytes.{one_of}
use Rattle.layout.specs.Editions.{shape}
use Rattle.layout.specs.Read.{limit, Read, accepted, refused, read_image}
use Rattle.layout.specs.Calls.{entries_of, entries_by, entries_in, checked_by, check_image, found_by, entry_at, value_of, value_at, string_by, string_at}
use Rattle.layout.proofs.Choices.{either}
use Rattle.laws.proofs.Records.{entries-count}
use Rattle.promises.proofs.Refusals.{refused-low, wider}
use Rattle.promises.proofs.Entries.{held, CheckedIn, LookupIn, nth_in, LocatedIn, pool-in}

module _ (f e : ℕ) (img : List ℕ) where
  pub entries-few : length (entries_in f e img) ≤ limit
  unfolding entries_in
  entries-few = go (read_image f e img) refl
    where
      go : (x : Read) → read_image f e img ≡ x → length (entries_by x e) ≤ limit
      go (accepted g start rs) q = (held f e img g start rs q).few
      go (refused r) q = omega arith

  pub checked-in : CheckedIn (check_image f e img)
  unfolding check_image entries_in
  checked-in = go (read_image f e img) refl entries-few
    where
      go : (x : Read) → read_image f e img ≡ x → length (entries_by x e) ≤ limit → CheckedIn (checked_by x)
      go (accepted g start rs) q few = omega (arith, entries-count (shape g) e start rs)
      go (refused r) q few = refused-low f e img r q

  pub entry_in : (n : ℕ) → LookupIn (entry_at f e img n)
  unfolding entry_at
  entry_in n = go (read_image f e img) refl
    where
      go : (x : Read) → read_image f e img ≡ x → LookupIn (found_by x e n)
      go (accepted g start rs) q = nth_in (entries_of (shape g) e start rs) n (held f e img g start rs q).inside
      go (refused r) q = wider (refused-low f e img r q)

  pub value_in : (n : ℕ) → LocatedIn 13 (value_at f e img n)
  unfolding value_at
  value_in n = go (entry_at f e img n) (entry_in n)
    where
      go : (x : Lookup) → LookupIn x → LocatedIn 13 (value_of x)
      go (Ok x) l = l.value
      go (Err r) l = l

  pub string-in : (number : ℕ) → LocatedIn 15 (string_at f e img number)
  unfolding string_at one_of
  string-in number = either (LocatedIn 15) (eqb f 3) (λ _. go (read_image f e img) refl) (λ _. record { number = refl; place = omega arith })
    where
      go : (x : Read) → read_image f e img ≡ x → LocatedIn 15 (string_by x number)
      go (accepted g start rs) q = let h = held f e img g start rs q in pool-in g false rs start number h.frames h.short
      go (refused r) q = wider (refused-low f e img r q)
