-- From what a call tells to its answer, and from the words of the promises to those of the definitions.
-- Assumes nothing.
use Prim.Native.Nat.{ℕ}
use mathlib.Core.Path.{◌≡◌, refl, ap, ◌∙◌}
use mathlib.Core.List.{List}
use mathlib.Core.Bool.{true}
use native.Mathlib.Omega.{arith}
use lib.ListN.{length}
use lib.Dec.{leb}
use borrow.Author.Tests.{eqb-true, leb-true, le-leb}
use Rattle.std.specs.Prelude.{Ok, Err}
use Rattle.layout.specs.declared.Format.{Format}
use Rattle.layout.specs.declared.Format.TheVariants.{Fboss, Vpd, Tiny, Onie}
use Rattle.layout.specs.declared.Field.{Field}
use Rattle.layout.specs.declared.Refusal.{Refusal}
use Rattle.layout.specs.Answers.{Checked, Made}
use Rattle.layout.specs.Bytes.{between, all}
use Rattle.layout.specs.Fboss.{fboss as fbossShape}
use Rattle.layout.specs.Vpd.{vpd as vpdShape}
use Rattle.layout.specs.Tiny.{tiny as tinyShape}
use Rattle.layout.specs.Onie.{onie as onieShape}
use Rattle.layout.specs.Editions.{shape, known_edition, with_edition, chosen}
use Rattle.layout.specs.Read.{Read, accepted, refused, read_image}
use Rattle.layout.specs.Calls.{Told, told_checked, checked_by, check_image}
use Rattle.layout.specs.Write.{write_image, told_made}
use Rattle.layout.specs.Change.{Change, change_image}
use Rattle.layout.proofs.Choices.{both}
use Rattle.laws.proofs.Calls.{Stands, one, two, three, four, chosen-stands}
use Rattle.promises.specs.Words.{FormatNumber, fboss, vpd, tiny, onie, KnownEdition, first_edition, Serves, Counts, IsRefused, tells_check, tells_write}
use Rattle.promises.specs.Numbers.{image_numbers, write_numbers, change_numbers}
use Rattle.promises.proofs.FormatNumbers.{tabled}
use Rattle.promises.proofs.Refusals.{farthest}
use Rattle.promises.proofs.Entries.{CheckedIn}
use Rattle.promises.proofs.ReadCalls.{checked-in}
use Rattle.promises.proofs.WriteCalls.{MadeLow, written_low}

-- ---- formats and editions

pub edition-known : (e : ℕ) → KnownEdition e → known_edition e ≡ true
edition-known e k = rw (le-leb 1 e k.0, le-leb e 4 k.1)

pub known-edition : (e : ℕ) → known_edition e ≡ true → KnownEdition e
known-edition e q = let b = both (leb 1 e) (leb e 4) q in (leb-true 1 e b.0, leb-true e 4 b.1)

pub first-edition : (g : Format) → (shape g).edition ≡ first_edition g
unfolding fbossShape vpdShape tinyShape onieShape
first-edition Fboss = refl
first-edition Vpd = refl
first-edition Tiny = refl
first-edition Onie = refl

-- the number of a format chooses it, where the edition has it
pub number-chosen : {f : ℕ} {g : Format} (e : ℕ) → FormatNumber f g → chosen f e ≡ with_edition e g
unfolding chosen
number-chosen e fboss = refl
number-chosen e vpd = refl
number-chosen e tiny = refl
number-chosen e onie = refl

-- a number is that of one format
pub one_format : {f : ℕ} {g h : Format} → FormatNumber f g → FormatNumber f h → g ≡ h
one_format fboss fboss = refl
one_format vpd vpd = refl
one_format tiny tiny = refl
one_format onie onie = refl

pub serves-chosen : {f e : ℕ} {g : Format} → Serves f e g → chosen f e ≡ Ok g
serves-chosen {f} {e} {g} s =
    number-chosen e s.number ∙ rw (edition-known e s.edition, first-edition g, le-leb (first_edition g) e s.since)

stands-numbered : (f : ℕ) (g : Format) → Stands f g → FormatNumber f g
stands-numbered f Fboss (one e) = rw (eqb-true f 1 e) fboss
stands-numbered f Vpd (two d e) = rw (eqb-true f 2 e) vpd
stands-numbered f Tiny (three c d e) = rw (eqb-true f 3 e) tiny
stands-numbered f Onie (four b c d e) = rw (eqb-true f 4 e) onie

pub chosen-serves : (f e : ℕ) (g : Format) → chosen f e ≡ Ok g → Serves f e g
chosen-serves f e g q =
    let s = chosen-stands f e g q in
    record {
      number = stands-numbered f g s.0;
      edition = known-edition e s.1.known;
      since = leb-true (first_edition g) e (rw (first-edition g) at s.1.since);
    }

-- ---- check

pub counts-accepted : (f e : ℕ) (image : List ℕ) (n : ℕ) → Counts (tells_check f e image) n → check_image f e image ≡ Ok n
unfolding all
counts-accepted f e image n q = go (check_image f e image) (checked-in f e image) q
  where
    go : (x : Checked) → CheckedIn x → Counts (told_checked x) n → x ≡ Ok n
    go (Ok m) l q = ap Ok (ap (λ (t : Told). t.count) q)
    go (Err r) l q = let z : r.number ≡ 0 = ap (λ (t : Told). t.number) q in absurd (omega (arith, tabled image_numbers r.number refl l.number))

pub check-refused : (f e : ℕ) (image : List ℕ) → IsRefused (tells_check f e image) → (r : Refusal) × (read_image f e image ≡ refused r)
unfolding check_image
check-refused f e image h = go (read_image f e image) refl h
  where
    go : (x : Read) → read_image f e image ≡ x → IsRefused (told_checked (checked_by x)) → (r : Refusal) × (read_image f e image ≡ refused r)
    go (accepted g start rs) q h = absurd (h refl)
    go (refused r) q h = (r, q)

-- ---- calls that make an image

module _ (numbers : List ℕ) (most : ℕ) (table : all (between 1 23) numbers ≡ true) where
  pub made_some : (x : Made) → MadeLow numbers most x → (told_made x).number ≡ 0 → (n : ℕ) × (x ≡ Ok n)
  made_some (Ok n) l z = (n, refl)
  made_some (Err r) l z = absurd (omega (arith, tabled numbers r.number table l.number))

  made-counts : (x : Made) (n : ℕ) → MadeLow numbers most x → Counts (told_made x) n → x ≡ Ok n
  made-counts x n l q =
      let w = made_some x l (ap (λ (t : Told). t.number) q) in
      let c : (told_made (Ok w.0)).count ≡ n = rw w.1 at (ap (λ (t : Told). t.count) q) in
      w.1 ∙ ap Ok c

module _ (f e : ℕ) (fields : List Field) (values out : List ℕ) where
  pub written-some : (tells_write f e fields values out).number ≡ 0 → (n : ℕ) × ((write_image f e fields values out).answer ≡ Ok n)
  unfolding all
  written-some z = made_some write_numbers (length fields) refl (write_image f e fields values out).answer (written_low f e fields values out) z

  pub counts-written : (n : ℕ) → Counts (tells_write f e fields values out) n → (write_image f e fields values out).answer ≡ Ok n
  unfolding all
  counts-written n q = made-counts write_numbers (length fields) refl (write_image f e fields values out).answer n (written_low f e fields values out) q

-- a change, whose refusals are of the table
module _ (x : Change) (f e : ℕ) (image out : List ℕ) (low : MadeLow change_numbers farthest (change_image x f e image out).answer) where
  pub changed-some : (told_made (change_image x f e image out).answer).number ≡ 0 → (m : ℕ) × ((change_image x f e image out).answer ≡ Ok m)
  unfolding all
  changed-some z = made_some change_numbers farthest refl (change_image x f e image out).answer low z

  pub counts-changed : (m : ℕ) → Counts (told_made (change_image x f e image out).answer) m → (change_image x f e image out).answer ≡ Ok m
  unfolding all
  counts-changed m q = made-counts change_numbers farthest refl (change_image x f e image out).answer m low q
