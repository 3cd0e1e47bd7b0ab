-- `crc::check16` meets its contract: no bytes follow.
-- Assumes nothing.
use Rattle.std.proofs.Common.{[], ap, ◌∙◌, append-nil}
use Rattle.crc.specs.Crc.{check_of, check16_of}
use Rattle.crc.proofs.check16.Goals as goal

pub returns : goal.returns
unfolding check_of check16_of
returns c = c.taken_in.ensures [] ∙ ap check16_of (append-nil c.args.bytes.now)
