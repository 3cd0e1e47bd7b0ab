use Prim.Native.Nat.{◌-◌}
use Rattle.boardid.proofs.Filling.{Filling}
use Rattle.boardid.proofs.put_records.Given as goal

abbrev pub invariant-loop-s : goal.invariant-loop-s
invariant-loop-s l = Filling l.format l.edition l.image l.start l.end l.initial.out l.out l.p l.at l.shut

abbrev pub decreases-loop-s : goal.decreases-loop-s
decreases-loop-s l = l.end - l.p
