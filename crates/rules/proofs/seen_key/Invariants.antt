use Rattle.layout.specs.Write.{fields_in}
use Rattle.rules.proofs.Seen.{Looking}
use Rattle.rules.proofs.seen_key.Given as goal

abbrev pub invariant-loop-i : goal.invariant-loop-i
invariant-loop-i l = Looking l.values l.key (fields_in l.fields) l.n l.i
