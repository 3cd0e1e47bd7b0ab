-- `keys::bit_at` meets its contract: the one bit lies below the 64th.
-- Assumes nothing.
use Prim.Native.Nat.{◌%◌, ◌^◌, ◌≤◌}
use native.Mathlib.Nat.{one-mul, mod-eq_of_lt, pow-le-pow_right}
use native.Mathlib.Omega.{arith}
use lib.Dec.{lit<}
use Rattle.keys.specs.Filter.{bit_at}
use Rattle.keys.proofs.bit_at.Goals as goal

pub returns : goal.returns
unfolding bit_at
returns c = let s = c.args.x % 64 in
    let least : 2 ^ s ≤ 2 ^ 63 = pow-le-pow_right {n = 2} (lit< tt) (let le : s ≤ 63 = omega arith in le) in
    rw (one-mul (2 ^ s)) (mod-eq_of_lt (omega arith))
