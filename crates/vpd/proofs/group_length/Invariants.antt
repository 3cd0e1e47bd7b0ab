use Prim.Native.Nat.{◌-◌, ◌^◌, ◌<◌}
use mathlib.Core.Path.{◌≡◌}
use Rattle.layout.specs.Vpd.{groups}
use Rattle.vpd.proofs.group_length.Given as goal

abbrev pub invariant-loop : goal.invariant-loop
invariant-loop l = (l.n < 128 ^ l.counter) × (groups 4 0 l.start l.s ≡ groups (4 - l.counter) l.n l.at l.s)

abbrev pub decreases-loop : goal.decreases-loop
decreases-loop l = 4 - l.counter
