-- One byte of a pool, where n bytes of a string that begins at p were passed: the string goes on, is the one that is sought, or is passed.
-- Assumes nothing.
use Prim.Native.Nat.{ℕ, zero, suc, ◌+◌, ◌≤◌, ◌<◌}
use mathlib.Core.Path.{◌≡◌}
use mathlib.Core.List.{List, ◌∷◌}
use borrow.Author.Tests.{lt-ltb, le-ltb}
use Rattle.std.specs.Prelude.{Ok}
use Rattle.layout.specs.Bytes.{part_at}
use Rattle.layout.specs.Calls.{string_in}

pub goes : (b : ℕ) (bs : List ℕ) (p n left : ℕ) → b < 128 → string_in (b ∷ bs) p n left ≡ string_in bs p (n + 1) left
unfolding string_in
goes b bs p n zero lt = rw (lt-ltb b 128 lt)
goes b bs p n (suc k) lt = rw (lt-ltb b 128 lt)

pub ends : (b : ℕ) (bs : List ℕ) (p n left : ℕ) → 128 ≤ b → left ≡ 0 → string_in (b ∷ bs) p n left ≡ Ok (part_at p (n + 1))
unfolding string_in
ends b bs p n left le z = rw (z, le-ltb b 128 le)

pub passes : (b : ℕ) (bs : List ℕ) (p n left k : ℕ) → 128 ≤ b → left ≡ suc k → string_in (b ∷ bs) p n left ≡ string_in bs (p + n + 1) 0 k
unfolding string_in
passes b bs p n left k le z = rw (z, le-ltb b 128 le)
