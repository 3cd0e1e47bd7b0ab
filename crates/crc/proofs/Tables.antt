-- The rule of each constant table, computed over all its entries.
-- Assumes nothing.
use Rattle.std.proofs.Common.{refl}
use Rattle.crc.specs.declared.ahead8.TheConstants.{AHEAD8_1, AHEAD8_2, AHEAD8_3}
use Rattle.crc.specs.declared.remainders8.TheConstants.{REMAINDERS8}
use Rattle.crc.specs.declared.ahead16.TheConstants.{AHEAD16_1, AHEAD16_2, AHEAD16_3}
use Rattle.crc.specs.declared.remainders16.TheConstants.{REMAINDERS16}
use Rattle.crc.specs.declared.ahead32.TheConstants.{AHEAD32_1, AHEAD32_2, AHEAD32_3}
use Rattle.crc.specs.declared.remainders32.TheConstants.{REMAINDERS32}
use Rattle.crc.specs.Crc.{single_bit, byte_in, remainder, ahead, mirror, mirrored, polynomial8, polynomial16, polynomial32}
use Rattle.crc.specs.Table.{rows}
use Rattle.crc.proofs.Table.{Made}

pub remainders8 : Made (remainder 8 polynomial8) REMAINDERS8
unfolding rows remainder single_bit
remainders8 = refl

pub ahead8-1 : Made (ahead 8 polynomial8 1) AHEAD8_1
unfolding rows ahead byte_in remainder single_bit
ahead8-1 = refl

pub ahead8-2 : Made (ahead 8 polynomial8 2) AHEAD8_2
unfolding rows ahead byte_in remainder single_bit
ahead8-2 = refl

pub ahead8-3 : Made (ahead 8 polynomial8 3) AHEAD8_3
unfolding rows ahead byte_in remainder single_bit
ahead8-3 = refl

pub remainders16 : Made (remainder 16 polynomial16) REMAINDERS16
unfolding rows remainder single_bit
remainders16 = refl

pub ahead16-1 : Made (ahead 16 polynomial16 1) AHEAD16_1
unfolding rows ahead byte_in remainder single_bit
ahead16-1 = refl

pub ahead16-2 : Made (ahead 16 polynomial16 2) AHEAD16_2
unfolding rows ahead byte_in remainder single_bit
ahead16-2 = refl

pub ahead16-3 : Made (ahead 16 polynomial16 3) AHEAD16_3
unfolding rows ahead byte_in remainder single_bit
ahead16-3 = refl

pub remainders32 : Made (mirrored 32 (remainder 32 polynomial32)) REMAINDERS32
unfolding rows mirrored mirror remainder single_bit
remainders32 = refl

pub ahead32-1 : Made (mirrored 32 (ahead 32 polynomial32 1)) AHEAD32_1
unfolding rows mirrored mirror ahead byte_in remainder single_bit
ahead32-1 = refl

pub ahead32-2 : Made (mirrored 32 (ahead 32 polynomial32 2)) AHEAD32_2
unfolding rows mirrored mirror ahead byte_in remainder single_bit
ahead32-2 = refl

pub ahead32-3 : Made (mirrored 32 (ahead 32 polynomial32 3)) AHEAD32_3
unfolding rows mirrored mirror ahead byte_in remainder single_bit
ahead32-3 = refl
