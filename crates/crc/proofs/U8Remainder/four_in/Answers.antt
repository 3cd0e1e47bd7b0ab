-- `u8::four_in` meets its contract: four bytes are taken in by an entry for each of them.
-- Assumes nothing.
use Rattle.std.proofs.Common.{ap₂, sym, ◌∙◌, rules}
use Rattle.std.specs.Int.Bits.{bit_xor}
use Rattle.crc.specs.Crc.{remainder, ahead, polynomial8}
use Rattle.crc.proofs.ByTable.{four-by-table8}
use Rattle.crc.proofs.Loop.{four-taken}
use Rattle.crc.proofs.Table.{each_made}
use Rattle.crc.proofs.Tables.{remainders8, ahead8-1, ahead8-2, ahead8-3}
use Rattle.crc.proofs.U8Remainder.four_in.Goals as goal

pub returns : goal.returns
returns c bs = let a = c.args in
    let second = c.entry.ensures (ahead 8 polynomial8 2) (each_made _ _ ahead8-2) in
    let first = c.entry-2.ensures (ahead 8 polynomial8 1) (each_made _ _ ahead8-1) in
    let last = c.entry-3.ensures (remainder 8 polynomial8) (each_made _ _ remainders8) in
    let third = c.entry-4.ensures (ahead 8 polynomial8 3) (each_made _ _ ahead8-3) in
    four-taken 8 polynomial8 a.self a.four bs (search rules) _
    (ap₂ bit_xor (ap₂ bit_xor (ap₂ bit_xor second first) last) third ∙ sym (four-by-table8 polynomial8 a.self _ _ _ _))
