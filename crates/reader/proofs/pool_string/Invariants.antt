use Prim.Native.Nat.{◌-◌}
use Rattle.reader.proofs.Finding.{Pooling}
use Rattle.reader.proofs.pool_string.Given as goal

abbrev pub invariant-loop-f : goal.invariant-loop-f
invariant-loop-f l = Pooling l.image l.initial.p l.end.0 l.number.0 l.p l.shut

abbrev pub decreases-loop-f : goal.decreases-loop-f
decreases-loop-f l = l.end.0 - l.p
