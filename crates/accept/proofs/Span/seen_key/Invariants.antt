use Prim.Native.Nat.{◌-◌}
use Rattle.accept.proofs.Seen.{Looking}
use Rattle.accept.proofs.Span.seen_key.Given as goal

abbrev pub invariant-loop-q : goal.invariant-loop-q
invariant-loop-q l = Looking l.image l.self.start l.self.end l.p l.key l.q

abbrev pub decreases-loop-q : goal.decreases-loop-q
decreases-loop-q l = l.self.end - l.q
