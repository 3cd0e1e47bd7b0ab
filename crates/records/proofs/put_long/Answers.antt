-- `records::put_long` meets its contract: the number's bytes are those of its two words.
-- Assumes nothing.
use mathlib.Core.Path.{◌∙◌}
use Rattle.records.proofs.Words.{long-bytes}
use Rattle.records.proofs.put_long.Goals as goal

pub returns : goal.returns
returns c = rw (c.to_le_bytes.ensures ∙ long-bytes _) at c.copy_at.ensures
