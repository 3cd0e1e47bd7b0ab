-- What no call takes (01, "Order"; 02, "ONIE images and edition 3", "Entries remember their whole frame"): a format that is not 1 to 4 is 16, then an edition that is not 1 to 4 is 1, then a format that the edition does not have is 16,
-- then an image or an output above 65,536 bytes is 2; each at 0.
-- Assumes nothing.
use Rattle.std.specs.Prelude.{ℕ, ◌<◌, List, ◌⊎◌, length}
use Rattle.layout.specs.declared.Format.{Format}
use Rattle.layout.specs.declared.Entry.{Entry}
use Rattle.layout.specs.declared.Field.{Field}
use Rattle.promises.specs.Words.{FormatNumber, KnownEdition, first_edition, Serves, Refuses, tells_check, tells_list, tells_entry, tells_value, tells_write, tells_edit, tells_add, tells_remove}

-- whatever else it is lent, every call of this format and edition is refused by this number, at 0; a string goes by Strings
pub record AllRefuse (f e n : ℕ) : Type 0 where
  pub checked : (image : List ℕ) → Refuses (tells_check f e image) n 0
  pub listed : (image : List ℕ) (records : List Entry) → Refuses (tells_list f e image records) n 0
  pub entry : (image : List ℕ) (i : ℕ) → Refuses (tells_entry f e image i) n 0
  pub value : (image : List ℕ) (i : ℕ) → Refuses (tells_value f e image i) n 0
  pub written : (fields : List Field) (values out : List ℕ) → Refuses (tells_write f e fields values out) n 0
  pub edited : (image : List ℕ) (i : ℕ) (v out : List ℕ) → Refuses (tells_edit f e image i v out) n 0
  pub added : (image : List ℕ) (fields : List Field) (values out : List ℕ) → Refuses (tells_add f e image fields values out) n 0
  pub removed : (image : List ℕ) (i : ℕ) (out : List ℕ) → Refuses (tells_remove f e image i out) n 0

-- of an edition that has the format: what is too long
pub record TooLong (f e : ℕ) : Type 0 where
  pub checked : (image : List ℕ) → 65536 < length image → Refuses (tells_check f e image) 2 0
  pub written : (fields : List Field) (values out : List ℕ) → 65536 < length out → Refuses (tells_write f e fields values out) 2 0
  pub edited : (image : List ℕ) (i : ℕ) (v out : List ℕ) → (65536 < length image) ⊎ (65536 < length out) → Refuses (tells_edit f e image i v out) 2 0
  pub added : (image : List ℕ) (fields : List Field) (values out : List ℕ) → (65536 < length image) ⊎ (65536 < length out) → Refuses (tells_add f e image fields values out) 2 0
  pub removed : (image : List ℕ) (i : ℕ) (out : List ℕ) → (65536 < length image) ⊎ (65536 < length out) → Refuses (tells_remove f e image i out) 2 0

pub record Asked : Type 0 where
  pub format : (f e : ℕ) → ((g : Format) → FormatNumber f g → ⊥) → AllRefuse f e 16
  pub edition : (f e : ℕ) (g : Format) → FormatNumber f g → (KnownEdition e → ⊥) → AllRefuse f e 1
  pub early : (f e : ℕ) (g : Format) → FormatNumber f g → KnownEdition e → e < first_edition g → AllRefuse f e 16
  pub length : (f e : ℕ) (g : Format) → Serves f e g → TooLong f e
