-- `records::pack_located` meets its contract: a part or a refusal.
-- Assumes nothing.
use Rattle.records.specs.Packed.{packed}
use Rattle.records.proofs.pack_located.Goals as goal

pub returns-in-Err : goal.returns-in-Err
returns-in-Err c = rw c.in-Err.is c.pack_refusal.ensures

pub returns-in-Ok : goal.returns-in-Ok
unfolding packed
returns-in-Ok c = rw c.in-Ok.is
