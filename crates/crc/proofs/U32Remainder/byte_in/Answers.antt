-- `u32::byte_in` meets its contract: a byte is taken in by a shift and one table entry.
-- Assumes nothing.
use Rattle.std.proofs.Common.{ℕ, ◌/◌, ◌^◌, map, ap, ◌∙◌, rules, lit<, lit≤}
use Rattle.std.specs.Int.Bits.{bit_xor}
use Rattle.crc.specs.Crc.{remainder, check_of, mirror, mirrored, polynomial32}
use Rattle.crc.proofs.Mirror.{by-table-mirrored}
use Rattle.crc.proofs.Table.{each_made}
use Rattle.crc.proofs.Tables.{remainders32}
use Rattle.crc.proofs.U32Remainder.byte_in.Goals as goal

pub returns : goal.returns
unfolding check_of
returns c bs = let a = c.args in
    let e = rw c.to_le_bytes.ensures at (c.entry.ensures (mirrored 32 (remainder 32 polynomial32)) (each_made _ _ remainders32)) in
    ap (λ (r : ℕ). check_of 32 polynomial32 r (map (mirror 8) bs))
    (ap (λ (x : ℕ). mirror 32 (bit_xor (a.self / 2 ^ 8) x)) e ∙ by-table-mirrored 32 polynomial32 a.self a.b (lit≤ tt) (lit< tt) (search rules))
