use Rattle.output.proofs.Overlay.{Copying}
use Rattle.output.proofs.copy_at.Given as goal

abbrev pub invariant-loop-i : goal.invariant-loop-i
invariant-loop-i l = Copying l.initial.out l.at l.s l.out l.i
