-- `room_calls::row_of` meets its contract.
-- Assumes nothing.
use Rattle.room_calls.proofs.Fields.{row-said}
use native.Mathlib.Omega.{arith}
use borrow.Author.Rules.{rules}
use Rattle.room_calls.proofs.row_of.Goals as goal

pub returns : goal.returns
returns c = (rw (c.from_be_bytes-number.ensures, c.from.ensures, c.from-2.ensures, c.from_be_bytes-size.ensures) (row-said c.args.bytes (search rules)), omega (arith, c.from-2.ensures))
