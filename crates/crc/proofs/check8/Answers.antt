-- `crc::check8` meets its contract: no bytes follow.
-- Assumes nothing.
use Rattle.std.proofs.Common.{[], ap, ◌∙◌, append-nil}
use Rattle.crc.specs.Crc.{check_of, check8_of}
use Rattle.crc.proofs.check8.Goals as goal

pub returns : goal.returns
unfolding check_of check8_of
returns c = c.taken_in.ensures [] ∙ ap (check8_of c.args.start) (append-nil c.args.bytes.now)
