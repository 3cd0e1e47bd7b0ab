use Prim.Native.Nat.{◌-◌}
use mathlib.Core.Path.{◌≡◌}
use lib.ListN.{length}
use Rattle.accept.proofs.Judging.{Along}
use Rattle.accept.proofs.Span.read_entries.Given as goal

abbrev pub invariant-loop-f : goal.invariant-loop-f
invariant-loop-f l = (length l.filter ≡ length l.initial.filter) × Along l.self.format l.self.edition l.image l.self.start l.self.end l.p l.n l.shut l.seen l.filter

abbrev pub decreases-loop-f : goal.decreases-loop-f
decreases-loop-f l = l.self.end - l.p
