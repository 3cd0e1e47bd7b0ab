use Prim.Native.Nat.{◌-◌}
use Rattle.vendor.proofs.Joining.{Joining}
use Rattle.vendor.proofs.join.Given as goal

abbrev pub invariant-loop-f : goal.invariant-loop-f
invariant-loop-f l = Joining l.image l.start l.end l.initial.own l.own l.p l.len

abbrev pub decreases-loop-f : goal.decreases-loop-f
decreases-loop-f l = l.end - l.p
