use Rattle.records.proofs.Words.{Putting}
use Rattle.records.proofs.put_words.Given as goal

abbrev pub invariant-loop-i : goal.invariant-loop-i
invariant-loop-i l = Putting l.initial.out l.at l.words l.out l.i
