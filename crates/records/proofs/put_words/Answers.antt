-- `records::put_words` meets its contract: a loop that writes word by word.
-- Assumes nothing.
use native.Mathlib.Omega.{arith}
use borrow.Author.Rules.{rules}
use Rattle.records.proofs.Words.{putting-starts, putting-length, puts, put_all, not-put}
use Rattle.records.proofs.put_words.Goals.{else-at-out-via-then-at-out+else-words-out, else-at-out-via-else-at-out}
use Rattle.records.proofs.put_words.Goals as goal

pub returns-else-at-out : goal.returns-else-at-out
returns-else-at-out c = elim c.else-at-out.branch [
  | else-at-out-via-then-at-out+else-words-out w ↦ not-put _ _ _ (search rules)
  | else-at-out-via-else-at-out w ↦ not-put _ _ _ (search rules)
]

pub loop-i-init : goal.loop-i-init
loop-i-init c = putting-starts _ _ c.args.words.now

pub put_word-requires : goal.put_word-requires
put_word-requires c = omega (arith, putting-length _ _ _ _ _ (search rules) c.loop-i.invariant)

pub loop-i-preserved : goal.loop-i-preserved
loop-i-preserved c = puts _ _ _ _ _ (search rules) c.loop-i.invariant _ (search rules) c.put_word.ensures

pub shape_of-out : goal.shape_of-out
shape_of-out c = putting-length _ _ _ _ _ (search rules) c.loop-i.invariant

pub returns-after-loop-i : goal.returns-after-loop-i
returns-after-loop-i c = put_all _ _ _ _ _ (search rules) c.loop-i.invariant (search rules)
