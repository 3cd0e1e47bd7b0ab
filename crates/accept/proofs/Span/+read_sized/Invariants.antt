-- `accept::read_sized` calls itself with a filter that is large enough: the measure is what the filter lacks of the size that it calls itself with.
use Rattle.std.proofs.Common.{◌-◌, length}
use Rattle.keys.specs.Filter.{more_words}
use Rattle.accept.proofs.Span.+read_sized.Given as goal

abbrev pub decreases-read_sized : goal.decreases-read_sized
decreases-read_sized l = more_words - length l.filter.now
