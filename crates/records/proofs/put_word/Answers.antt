-- `records::put_word` meets its contract: a copy of the four low bytes.
-- Assumes nothing.
use native.Mathlib.Omega.{arith}
use borrow.Author.Rules.{rules}
use Rattle.output.proofs.Overlay.{put-copied}
use Rattle.records.proofs.put_word.Goals as goal

pub returns : goal.returns
returns c = put-copied _ _ _ (rw c.to_le_bytes-bytes.ensures at c.copy_from_slice.ensures.after) (omega arith) (search rules)
