-- `vpd::keyed_head` meets its contract: a length that is read ends within the bytes, so that the room after it can be compared.
-- Assumes nothing.
use Prim.Native.Nat.{ℕ, ◌+◌, ◌-◌, ◌≤◌, ◌<◌}
use mathlib.Core.Path.{◌≡◌, ap, sym, ◌∙◌}
use mathlib.Core.List.{List}
use native.Mathlib.Omega.{arith}
use borrow.Author.Tests.{le-leb, lt-leb}
use lib.ListN.{length, get_or, length-drop, length-append}
use Rattle.std.specs.Prelude.{Ok, Err, Some}
use Rattle.layout.specs.Answers.{Length}
use Rattle.layout.specs.Vpd.{groups, keyed_head}
use Rattle.layout.proofs.Passed.{passed}
use Rattle.laws.proofs.LengthBytes.{groups-sound}
use Rattle.vpd.proofs.keyed_head.Goals as goal

-- a length that was read, in bytes that are not empty
module _ (s : List ℕ) {l : Length} {n j : ℕ} (told : l ≡ groups 4 0 1 s) (read : l ≡ Ok (n, j)) (some : 1 ≤ length s) where
  within : j ≤ length s
  within =
      let m = groups-sound 4 0 1 s n j (sym told ∙ read) in
      omega (arith, simp (length-drop, length-append) at (ap length m.joined))

  fits : n ≤ length s - j → keyed_head (groups 4 0 1 s) s ≡ Ok (Some (record { code = get_or s 0 0; key = j; klen = n; at = j + n }))
  fits le = rw (← told, read, le-leb (j + n) (length s) (omega (arith, within)))

  past : length s - j < n → keyed_head (groups 4 0 1 s) s ≡ Err 5
  past lt = rw (← told, read, lt-leb (j + n) (length s) (omega (arith, within)))

pub overflow_sub-s : goal.overflow_sub-s
overflow_sub-s c = omega (arith, within _ c.group_length.ensures c.in_ok-n.was c.requires.0)

pub overflow_add-result : goal.overflow_add-result
overflow_add-result c = omega (arith, within _ c.group_length.ensures c.in_ok-n.was c.requires.0)

pub returns-then-s-j : goal.returns-then-s-j
returns-then-s-j c = sym (past _ c.group_length.ensures c.in_ok-n.was c.requires.0 (omega arith))

pub returns : goal.returns
returns c = rw c.requires.1
    (sym (fits _ c.group_length.ensures c.in_ok-n.was c.requires.0 (omega arith)))

pub returns-in_err-n : goal.returns-in_err-n
returns-in_err-n c = rw (← c.group_length.ensures, c.in_err-n.was) (passed c.from_residual.result c.from_residual.ensures.1)
