-- What a list comes to, one equation for each way that it ends.
-- Assumes nothing.
use Prim.Native.Nat.{ℕ, ◌≤◌, ◌<◌}
use mathlib.Core.Path.{◌≡◌, ap, sym, ◌∙◌}
use mathlib.Core.List.{List, ◌++◌}
use borrow.Author.Tests.{le-leb, lt-leb}
use lib.ListN.{length, drop}
use Rattle.std.specs.Prelude.{Ok, Err}
use Rattle.layout.specs.declared.Entry.{Entry}
use Rattle.layout.specs.declared.Refusal.{Refusal}
use Rattle.layout.specs.Bytes.{refusal}
use Rattle.layout.specs.Editions.{shape}
use Rattle.layout.specs.Walk.{Raw}
use Rattle.layout.specs.Read.{Read}
use Rattle.layout.specs.Calls.{entries_of, fill, listed_by, list_entries}
use Rattle.laws.specs.Passes.{walked, IsDone, raws_in}
use Rattle.laws.proofs.Records.{entries-count}
use Rattle.accept.specs.declared.Room.{Room}
use Rattle.accept.specs.Taken.{taken}
use Rattle.accept.proofs.Rooms.{took, not-took}
use Rattle.listing.proofs.Filling.{entries}

module _ (f e : ℕ) (image : List ℕ) (records : List Entry) where
  pub list-refused : {r : Refusal} → taken f e image ≡ Err r → list_entries f e image records ≡ record { answer = Err r; records = records }
  unfolding list_entries
  list-refused {r} q = ap (λ (x : Read). listed_by x e records) (not-took f e image r q)

  module _ {room : Room} (q : taken f e image ≡ Ok room) where
    abbrev given : List Entry
    given = entries room.format e image room.start room.end

    -- what is known of the entries of an image that is taken
    pub record Given : Type 0 where
      pub done : IsDone (walked room.format image room.start room.end)
      pub many : length given ≡ room.count
      pub is : list_entries f e image records ≡ fill given records

    pub list-given : Given
    unfolding list_entries
    list-given =
        let t = took f e image room q in
        let are : t.entries ≡ raws_in (walked room.format image room.start room.end) = sym (ap raws_in t.walks) in
        record {
          done = rw t.walks tt;
          many = entries-count (shape room.format) e room.start (raws_in (walked room.format image room.start room.end)) ∙ ap length (sym are) ∙ sym t.counts;
          is =
              ap (λ (x : Read). listed_by x e records) t.read
              ∙ ap (λ (rs : List Raw). fill (entries_of (shape room.format) e room.start rs) records) are;
        }

    pub list-short : length records < room.count → list_entries f e image records ≡ record { answer = Err (refusal 12 0); records = records }
    list-short lt = list-given.is ∙ rw (lt-leb (length given) (length records) (rw list-given.many lt))

    pub list-fills : room.count ≤ length records → list_entries f e image records ≡ record { answer = Ok room.count; records = given ++ drop room.count records }
    list-fills le = list-given.is ∙ rw (le-leb (length given) (length records) (rw list-given.many le), list-given.many)
