use Prim.Native.Nat.{◌≤◌}
use mathlib.Core.Path.{◌≡◌}
use Rattle.layout.specs.Calls.{string_in}
use Rattle.reader.proofs.Strings.{string_from}
use Rattle.reader.proofs.string_in.Given as goal

abbrev pub invariant-loop-i : goal.invariant-loop-i
invariant-loop-i l = (l.first ≤ l.i) × (string_in l.pool l.place.0 0 l.initial.skip ≡ string_from l.pool l.place.0 l.first l.i l.skip)
