-- `u8::byte_in` meets its contract: a byte is taken in by one table entry.
-- Assumes nothing.
use Rattle.std.proofs.Common.{ℕ, ap, sym, ◌∙◌}
use Rattle.crc.specs.Crc.{remainder, check_of, polynomial8}
use Rattle.crc.proofs.ByTable.{by-table8}
use Rattle.crc.proofs.Table.{each_made}
use Rattle.crc.proofs.Tables.{remainders8}
use Rattle.crc.proofs.U8Remainder.byte_in.Goals as goal

pub returns : goal.returns
unfolding check_of
returns c bs = ap (λ (r : ℕ). check_of 8 polynomial8 r bs)
    (c.entry.ensures (remainder 8 polynomial8) (each_made _ _ remainders8) ∙ sym (by-table8 polynomial8 c.args.self c.args.b))
