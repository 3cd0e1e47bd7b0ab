-- What no call takes.
-- Assumes nothing.
use Prim.Native.Nat.{ℕ, ◌<◌}
use mathlib.Core.Path.{◌≡◌, refl, ◌∙◌}
use mathlib.Core.List.{List}
use mathlib.Core.Logic.{◌⊎◌, inl, inr}
use mathlib.Core.Bool.{Bool, true, false, ◌||◌}
use lib.ListN.{length}
use lib.Dec.{ltb}
use borrow.Author.Tests.{ne_eqb, lt-ltb, lt-leb}
use Rattle.std.specs.Prelude.{Ok, Err}
use Rattle.layout.specs.declared.Format.{Format}
use Rattle.layout.specs.declared.Format.TheVariants.{Fboss, Vpd, Tiny, Onie}
use Rattle.layout.specs.Editions.{known_edition, chosen}
use Rattle.layout.specs.Read.{limit, read_image}
use Rattle.layout.specs.Calls.{check_image, list_entries, entry_at, value_at}
use Rattle.layout.specs.Write.{write_image, told_made}
use Rattle.layout.specs.Change.{Change, change_image}
use Rattle.layout.specs.Edit.{edit}
use Rattle.layout.specs.Add.{addition}
use Rattle.layout.specs.Remove.{removal}
use Rattle.layout.proofs.Choices.{refuted}
use Rattle.promises.specs.Words.{FormatNumber, fboss, vpd, tiny, onie, KnownEdition, first_edition, Refuses}
use Rattle.promises.specs.Asked.{AllRefuse, TooLong, Asked}
use Rattle.promises.proofs.Telling.{edition-known, known-edition, first-edition, number-chosen, serves-chosen}

-- ---- formats and editions

-- 16 where the number stands for no format
no-format : (f e : ℕ) → ((g : Format) → FormatNumber f g → ⊥) → chosen f e ≡ Err 16
unfolding chosen
no-format f e none =
    rw (
      ne_eqb f 1 (λ q. none Fboss (rw q fboss)),
      ne_eqb f 2 (λ q. none Vpd (rw q vpd)),
      ne_eqb f 3 (λ q. none Tiny (rw q tiny)),
      ne_eqb f 4 (λ q. none Onie (rw q onie)),
    )

unknown-edition : (e : ℕ) → (KnownEdition e → ⊥) → known_edition e ≡ false
unknown-edition e none = refuted (known_edition e) (λ q. none (known-edition e q))

-- 1 where it stands for one, and the edition is not known
pub no-edition : (f e : ℕ) (g : Format) → FormatNumber f g → (KnownEdition e → ⊥) → chosen f e ≡ Err 1
no-edition f e g number none = number-chosen e number ∙ rw (unknown-edition e none)

-- 16 where the edition is known, and before the first that has the format
pub too-early : (f e : ℕ) (g : Format) → FormatNumber f g → KnownEdition e → e < first_edition g → chosen f e ≡ Err 16
too-early f e g number k early = number-chosen e number ∙ rw (edition-known e k, first-edition g, lt-leb (first_edition g) e early)

all-refuse : (f e n : ℕ) → chosen f e ≡ Err n → AllRefuse f e n
unfolding read_image check_image list_entries entry_at value_at write_image change_image
all-refuse f e n k =
    record {
      checked = λ image. rw k;
      listed = λ image records. rw k;
      entry = λ image i. rw k;
      value = λ image i. rw k;
      written = λ fields values out. rw k;
      edited = λ image i v out. rw k;
      added = λ image xs values out. rw k;
      removed = λ image i out. rw k;
    }

-- ---- lengths

too-long : (f e : ℕ) (g : Format) → chosen f e ≡ Ok g → TooLong f e
unfolding read_image check_image write_image change_image
too-long f e g k =
    record {
      checked = λ image lt. rw (k, lt-ltb limit (length image) lt);
      written = λ fields values out lt. rw (k, lt-ltb limit (length out) lt);
      edited = λ image i v out. changed (edit i v) image out;
      added = λ image xs values out. changed (addition xs values) image out;
      removed = λ image i out. changed (removal i) image out;
    }
  where
    either-long : (b : Bool) → (b || true) ≡ true
    either-long true = refl
    either-long false = refl

    changed : (x : Change) (image out : List ℕ) → (limit < length image) ⊎ (limit < length out) → Refuses (told_made (change_image x f e image out).answer) 2 0
    changed x image out (inl lt) = rw (k, lt-ltb limit (length image) lt)
    changed x image out (inr lt) = rw (k, lt-ltb limit (length out) lt, either-long (ltb limit (length image)))

pub asked : Asked
asked =
    record {
      format = λ f e none. all-refuse f e 16 (no-format f e none);
      edition = λ f e g number none. all-refuse f e 1 (no-edition f e g number none);
      early = λ f e g number k early. all-refuse f e 16 (too-early f e g number k early);
      length = λ f e g serves. too-long f e g (serves-chosen serves);
    }
