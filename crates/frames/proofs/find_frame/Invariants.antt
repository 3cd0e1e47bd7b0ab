use mathlib.Core.Path.{◌≡◌}
use mathlib.Core.Bool.{false}
use Rattle.layout.specs.Editions.{shape}
use Rattle.frames.specs.Spots.{spot_at}
use Rattle.frames.proofs.find_frame.Given as goal

abbrev pub invariant-loop-f : goal.invariant-loop-f
invariant-loop-f l = spot_at (shape l.format) l.image false l.start l.end l.n ≡ spot_at (shape l.format) l.image l.shut l.p l.end l.left

abbrev pub decreases-loop-f : goal.decreases-loop-f
decreases-loop-f l = l.left
