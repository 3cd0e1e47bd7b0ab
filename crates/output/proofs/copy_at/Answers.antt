-- `output::copy_at` meets its contract: the tests of the room, and a loop that writes byte by byte.
-- Assumes nothing.
use mathlib.Core.Path.{refl, sym}
use native.Mathlib.Omega.{arith}
use borrow.Author.Rules.{rules}
use Rattle.output.proofs.Overlay.{over-nil, copied-not, copying-length, copies, copied_all}
use Rattle.output.proofs.copy_at.Goals.{else-at-out-via-then-at-out+else-s-out, else-at-out-via-else-at-out}
use Rattle.output.proofs.copy_at.Goals as goal

pub loop-i-init : goal.loop-i-init
loop-i-init c = (omega arith, sym (over-nil _ _))

pub bounds-out-at : goal.bounds-out-at
bounds-out-at c = omega (arith, copying-length _ _ _ _ _ (search rules) c.loop-i.invariant)

pub loop-i-preserved : goal.loop-i-preserved
loop-i-preserved c = copies _ _ _ _ _ (search rules) c.loop-i.invariant _ refl (search rules)

pub shape_of-out : goal.shape_of-out
shape_of-out c = copying-length _ _ _ _ _ (search rules) c.loop-i.invariant

pub returns-after-loop-i : goal.returns-after-loop-i
returns-after-loop-i c = copied_all _ _ _ _ _ (search rules) c.loop-i.invariant (search rules)

pub returns-else-at-out : goal.returns-else-at-out
returns-else-at-out c = elim c.else-at-out.branch [
  | else-at-out-via-then-at-out+else-s-out w ↦ copied-not _ _ _ (search rules)
  | else-at-out-via-else-at-out w ↦ copied-not _ _ _ (search rules)
]
