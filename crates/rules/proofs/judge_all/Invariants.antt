use mathlib.Core.Path.{◌≡◌}
use lib.ListN.{length}
use Rattle.layout.specs.Write.{fields_in}
use Rattle.rules.proofs.Judging.{Judging}
use Rattle.rules.proofs.judge_all.Given as goal

abbrev pub invariant-loop-i : goal.invariant-loop-i
invariant-loop-i l = (length l.filter ≡ length l.initial.filter) × Judging l.format l.edition (fields_in l.fields) l.values l.i l.shut l.seen l.filter l.total
