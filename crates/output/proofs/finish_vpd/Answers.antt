-- `output::finish_vpd` meets its contract: the entries and their end are the image.
-- Assumes nothing.
use Rattle.layout.specs.Bytes.{part}
use Rattle.layout.specs.Vpd.{vpd}
use Rattle.layout.specs.Write.{image_of}
use Rattle.output.proofs.finish_vpd.Goals as goal

pub returns : goal.returns
unfolding vpd image_of part
returns c = c.put_end.ensures
