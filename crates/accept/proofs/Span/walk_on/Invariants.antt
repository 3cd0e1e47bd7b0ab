use Prim.Native.Nat.{◌-◌, ◌≤◌}
use mathlib.Core.Path.{◌≡◌}
use Rattle.layout.specs.Bytes.{part}
use Rattle.layout.specs.Editions.{shape}
use Rattle.layout.specs.Walk.{walk}
use Rattle.accept.specs.Passes.{walk_ending}
use Rattle.accept.proofs.Span.walk_on.Given as goal

abbrev pub invariant-loop-f : goal.invariant-loop-f
invariant-loop-f l = let a = l.self in
    (l.q ≤ a.end) × (l.count ≤ l.q) × (walk_ending l.n l.judgement (walk (shape a.format) l.shut l.p (part l.p (a.end - l.p) l.image)) ≡ walk_ending l.count l.judgement (walk (shape a.format) l.closed l.q (part l.q (a.end - l.q) l.image)))

abbrev pub decreases-loop-f : goal.decreases-loop-f
decreases-loop-f l = l.self.end - l.q
