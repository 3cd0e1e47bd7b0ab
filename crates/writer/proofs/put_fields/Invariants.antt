use Rattle.layout.specs.Editions.{shape}
use Rattle.writer.proofs.Entries.{Putting}
use Rattle.writer.proofs.put_fields.Given as goal

abbrev pub invariant-loop-i : goal.invariant-loop-i
invariant-loop-i l = Putting (shape l.format) l.values l.fields l.initial.out l.start l.out l.at l.i
