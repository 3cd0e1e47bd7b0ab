-- `rules::judge_sized` calls itself with a filter that is large enough: the measure is what the filter lacks of the size that it calls itself with.
use Rattle.std.proofs.Common.{◌-◌, length}
use Rattle.keys.specs.Filter.{more_words}
use Rattle.rules.proofs.+judge_sized.Given as goal

abbrev pub decreases-judge_sized : goal.decreases-judge_sized
decreases-judge_sized l = more_words - length l.filter.now
