-- `onie::is_onie` meets its contract: the first eight bytes are compared with the constant.
-- Assumes nothing.
use mathlib.Core.Path.{◌∙◌}
use lib.ListN.{take}
use Rattle.layout.specs.Bytes.{part}
use Rattle.layout.specs.Onie.{tlv_info}
use Rattle.onie.proofs.Forms.{same_turned}
use Rattle.onie.proofs.is_onie.Goals as goal

pub returns : goal.returns
unfolding part
returns c = c.starts_with.ensures.value ∙ same_turned (take 8 c.args.image.now) tlv_info
