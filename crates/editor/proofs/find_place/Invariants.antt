use Prim.Native.Nat.{◌-◌}
use Rattle.editor.proofs.Adding.{Seeking}
use Rattle.editor.proofs.find_place.Given as goal

abbrev pub invariant-loop-f : goal.invariant-loop-f
invariant-loop-f l = Seeking l.room.format l.image l.room.start l.room.end (record { code = l.code; key = l.key }) l.p

abbrev pub decreases-loop-f : goal.decreases-loop-f
decreases-loop-f l = l.room.end - l.p
