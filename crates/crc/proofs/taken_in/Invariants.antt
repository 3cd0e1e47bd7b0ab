use Rattle.std.proofs.Common.{◌≡◌, List, ℕ, ◌++◌, drop}
use Rattle.std.specs.List.{concat}
use Rattle.crc.proofs.taken_in.Given as goal

abbrev pub invariant-loop-four : goal.invariant-loop-four
invariant-loop-four g l =
    (bs : List ℕ) → g.R.Remainder.gives l.r (concat (drop l.four-index l.fours) ++ (l.rest ++ bs)) ≡ g.R.Remainder.gives l.fn.start (l.bytes ++ bs)

abbrev pub invariant-loop-b : goal.invariant-loop-b
invariant-loop-b g l = (bs : List ℕ) → g.R.Remainder.gives l.r (drop l.b-index l.rest ++ bs) ≡ g.R.Remainder.gives l.fn.start (l.bytes ++ bs)
