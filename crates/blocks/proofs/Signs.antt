-- The number that a byte says, below 128 and from 128 on.
-- Assumes nothing.
use Prim.Native.Nat.{ℕ, ◌-◌, ◌≤◌, ◌<◌}
use mathlib.Core.Path.{◌≡◌}
use lib.IntN.{pos, negsuc}
use borrow.Author.Tests.{lt-ltb, le-ltb}
use Rattle.blocks.specs.Offset.{signed}

pub low_signed : (b : ℕ) → b < 128 → signed b ≡ pos b
low_signed b lt = rw (lt-ltb b 128 lt)

pub high-signed : (b : ℕ) → 128 ≤ b → signed b ≡ negsuc (255 - b)
high-signed b le = rw (le-ltb b 128 le)
