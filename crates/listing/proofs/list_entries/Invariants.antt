-- The first records are those of the entries before p.
use Rattle.listing.proofs.Filling.{Filling}
use Rattle.listing.proofs.list_entries.Given as goal

abbrev pub invariant-loop-record : goal.invariant-loop-record
invariant-loop-record l = Filling l.room.format l.edition l.image l.room.start l.room.end l.record-items l.record-index l.p l.shut
