-- `u32::four_in` meets its contract: four bytes are taken in by an entry for each of them, with the remainder kept mirrored.
-- Assumes nothing.
use Rattle.std.proofs.Common.{◌≡◌, ◌/◌, ap, ap₂, ◌∙◌, rules, lit<, arith}
use Rattle.std.specs.Int.Bits.{bit_xor}
use Rattle.crc.specs.Crc.{remainder, ahead, mirror, mirrored, polynomial32}
use Rattle.crc.proofs.Mirror.{four-by-table32}
use Rattle.crc.proofs.Loop.{four-taken-mirrored}
use Rattle.crc.proofs.Table.{each_made}
use Rattle.crc.proofs.Tables.{remainders32, ahead32-1, ahead32-2, ahead32-3}
use Rattle.crc.proofs.U32Remainder.four_in.Goals as goal

pub returns : goal.returns
returns c bs = let a = c.args in
    let top : a.self / 16777216 ≡ a.self / 65536 / 256 = omega arith in
    let third = c.entry.ensures (mirrored 32 (ahead 32 polynomial32 3)) (each_made _ _ ahead32-3) in
    let second = c.entry-2.ensures (mirrored 32 (ahead 32 polynomial32 2)) (each_made _ _ ahead32-2) in
    let first = c.entry-3.ensures (mirrored 32 (ahead 32 polynomial32 1)) (each_made _ _ ahead32-1) in
    let last = c.entry-4.ensures (mirrored 32 (remainder 32 polynomial32)) (each_made _ _ remainders32) in
    four-taken-mirrored 32 polynomial32 (mirror 32 a.self) a.four bs (search rules) _
    (ap (mirror 32) (rw (c.to_le_bytes.ensures, top) at (ap₂ bit_xor (ap₂ bit_xor third second) (ap₂ bit_xor first last)))
    ∙ four-by-table32 polynomial32 a.self _ _ _ _ (lit< tt) (search rules))
