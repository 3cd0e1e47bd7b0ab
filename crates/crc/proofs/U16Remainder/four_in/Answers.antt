-- `u16::four_in` meets its contract: four bytes are taken in by an entry for each of them.
-- Assumes nothing.
use Rattle.std.proofs.Common.{◌≡◌, ◌/◌, ◌%◌, ap₂, sym, ◌∙◌, rules, arith}
use Rattle.std.specs.Int.Bits.{bit_xor}
use Rattle.crc.specs.Crc.{remainder, ahead, polynomial16}
use Rattle.crc.proofs.ByTable.{four-by-table16}
use Rattle.crc.proofs.Loop.{four-taken}
use Rattle.crc.proofs.Table.{each_made}
use Rattle.crc.proofs.Tables.{remainders16, ahead16-1, ahead16-2, ahead16-3}
use Rattle.crc.proofs.U16Remainder.four_in.Goals as goal

pub returns : goal.returns
returns c bs = let a = c.args in
    let top : a.self / 256 % 256 ≡ a.self / 256 = omega arith in
    let first = c.entry.ensures (ahead 16 polynomial16 1) (each_made _ _ ahead16-1) in
    let last = c.entry-2.ensures (remainder 16 polynomial16) (each_made _ _ remainders16) in
    let third = c.entry-3.ensures (ahead 16 polynomial16 3) (each_made _ _ ahead16-3) in
    let second = c.entry-4.ensures (ahead 16 polynomial16 2) (each_made _ _ ahead16-2) in
    four-taken 16 polynomial16 a.self a.four bs (search rules) _
    (ap₂ bit_xor (ap₂ bit_xor first last) (rw (c.to_be_bytes.ensures, top) at (ap₂ bit_xor third second)) ∙ sym (four-by-table16 polynomial16 a.self _ _ _ _))
