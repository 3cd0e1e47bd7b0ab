-- A refused call changes nothing: its answer is a refusal, and the memory is what was lent.
-- Assumes nothing.
use Rattle.std.specs.Prelude.{ℕ, ◌≡◌, List}
use Rattle.layout.specs.declared.Entry.{Entry}
use Rattle.layout.specs.declared.Field.{Field}
use Rattle.layout.specs.Calls.{list_entries}
use Rattle.layout.specs.Write.{write_image}
use Rattle.layout.specs.Edit.{edit_entry}
use Rattle.layout.specs.Add.{add_field}
use Rattle.layout.specs.Remove.{remove_entry}
use Rattle.promises.specs.Words.{IsRefused, tells_list, tells_write, tells_edit, tells_add, tells_remove}

pub record Unchanged : Type 0 where
  pub written : (f e : ℕ) (fields : List Field) (values out : List ℕ) → IsRefused (tells_write f e fields values out) → (write_image f e fields values out).memory ≡ out
  pub edited : (f e : ℕ) (image : List ℕ) (i : ℕ) (v out : List ℕ) → IsRefused (tells_edit f e image i v out) → (edit_entry f e image i v out).memory ≡ out
  pub added : (f e : ℕ) (image : List ℕ) (fields : List Field) (values out : List ℕ) → IsRefused (tells_add f e image fields values out) → (add_field f e image fields values out).memory ≡ out
  pub removed : (f e : ℕ) (image : List ℕ) (i : ℕ) (out : List ℕ) → IsRefused (tells_remove f e image i out) → (remove_entry f e image i out).memory ≡ out
  pub listed : (f e : ℕ) (image : List ℕ) (records : List Entry) → IsRefused (tells_list f e image records) → (list_entries f e image records).records ≡ records
