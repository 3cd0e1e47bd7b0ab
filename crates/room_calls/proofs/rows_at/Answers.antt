-- `room_calls::rows_at` meets its contract.
-- Assumes nothing.
use mathlib.Core.Path.{◌∙◌}
use Rattle.room_calls.proofs.Fields.{many, rows-said}
use Rattle.room_calls.proofs.rows_at.Goals as goal

pub returns : goal.returns
returns c = let a = c.args in (rows-said a.file.now a.n c.requires c.as_chunks.ensures.front, c.as_chunks.ensures.front_len ∙ many a.file.now a.n c.requires)
