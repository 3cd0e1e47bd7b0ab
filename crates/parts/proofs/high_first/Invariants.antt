use lib.ListN.{length}
use Rattle.layout.specs.Bytes.{part}
use Rattle.parts.proofs.Loops.{Taking}
use Rattle.parts.proofs.high_first.Given as goal

abbrev pub invariant-loop-b : goal.invariant-loop-b
invariant-loop-b l = Taking (part l.at l.n l.s) l.number (length l.yielded)
