-- `keys::word_at` meets its contract: a hash below 2^32 takes less than its share.
-- Assumes nothing.
use Prim.Native.Nat.{◌%◌}
use mathlib.Core.Path.{refl}
use native.Mathlib.Omega.{arith}
use borrow.Author.Rules.{rules}
use Rattle.keys.specs.Filter.{word_at}
use Rattle.keys.proofs.Hashing.{product-most, word_in}
use Rattle.keys.proofs.word_at.Goals as goal

pub overflow_mul-result : goal.overflow_mul-result
overflow_mul-result c = record { fits = omega (arith, product-most c.from.result (c.args.n % 65536) (search rules)) }

pub returns : goal.returns
unfolding word_at
returns c = rw c.from.ensures (refl, word_in c.args.n c.args.h (search rules) (search rules))
