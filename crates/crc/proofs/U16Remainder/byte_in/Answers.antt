-- `u16::byte_in` meets its contract: a byte is taken in by a shift and one table entry.
-- Assumes nothing.
use Rattle.std.proofs.Common.{◌≡◌, ℕ, ◌/◌, ◌%◌, ap, sym, lit≤, arith}
use Rattle.std.specs.Int.Bits.{bit_xor}
use Rattle.crc.specs.Crc.{remainder, check_of, polynomial16}
use Rattle.crc.proofs.ByTable.{by-table}
use Rattle.crc.proofs.Table.{each_made}
use Rattle.crc.proofs.Tables.{remainders16}
use Rattle.crc.proofs.U16Remainder.byte_in.Goals as goal

pub returns : goal.returns
unfolding check_of
returns c bs = let a = c.args in
    let top : a.self / 256 % 256 ≡ a.self / 256 = omega arith in
    let e : c.entry.result ≡ remainder 16 polynomial16 (bit_xor (a.self / 256 % 256) a.b) =
    rw c.to_be_bytes.ensures at (c.entry.ensures (remainder 16 polynomial16) (each_made _ _ remainders16)) in
    ap (λ (r : ℕ). check_of 16 polynomial16 r bs) (rw (e, top) (sym (by-table 16 polynomial16 a.self a.b (lit≤ tt))))
