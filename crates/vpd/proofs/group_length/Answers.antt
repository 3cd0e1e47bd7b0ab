-- `vpd::group_length` meets its contract: the length is that of the bytes that are left, after the number that was read so far.
-- Assumes nothing.
use Prim.Native.Nat.{ℕ, suc, ◌+◌, ◌-◌, ◌^◌, ◌≤◌, ◌<◌}
use mathlib.Core.Path.{◌≡◌, refl, sym, ap₂, ◌∙◌}
use native.Mathlib.Nat.{pow-suc, pow-le-pow_right}
use native.Mathlib.Numerals.{add-one}
use native.Mathlib.Omega.{arith}
use borrow.Author.Tests.{lt-ltb, le-ltb}
use Rattle.std.specs.Prelude.{Ok}
use Rattle.layout.specs.Answers.{Length}
use Rattle.layout.specs.Vpd.{groups}
use Rattle.vpd.proofs.group_length.Goals as goal

-- what fewer than four bytes of seven bits say at most
small : (n k : ℕ) → n < 128 ^ k → k < 4 → n < 128 ^ 3
small n k h lt = let p : 128 ^ k ≤ 128 ^ 3 = pow-le-pow_right {n = 128} (omega arith) {i = k} {j = 3} (omega arith) in omega arith

-- a length that was read, and the place after it
abbrev read : ℕ → ℕ → Length
read n j = Ok (n, j)

pub loop-init : goal.loop-init
loop-init c = (omega arith, refl)

pub returns-then-s-at : goal.returns-then-s-at
unfolding groups
returns-then-s-at c = let l = c.loop in
    let more : 4 - l.counter ≡ suc (4 - (l.counter + 1)) = omega arith in
    sym (l.invariant.1 ∙ rw (more, le-ltb _ _ c.if-s-at.true))

pub bounds-s-at : goal.bounds-s-at
bounds-s-at c = omega arith

pub overflow_mul-n : goal.overflow_mul-n
overflow_mul-n c = let l = c.loop in omega (arith, small l.n l.counter l.invariant.0 (omega arith))

pub overflow_cast-n : goal.overflow_cast-n
overflow_cast-n c = omega arith

pub overflow_add-n : goal.overflow_add-n
overflow_add-n c = let l = c.loop in omega (arith, small l.n l.counter l.invariant.0 (omega arith))

pub overflow_add-at : goal.overflow_add-at
overflow_add-at c = omega arith

pub returns-then-b-lt128 : goal.returns-then-b-lt128
unfolding groups
returns-then-b-lt128 c = let l = c.loop in
    let more : 4 - l.counter ≡ suc (4 - (l.counter + 1)) = omega arith in
    sym (l.invariant.1 ∙ rw (more, lt-ltb _ _ c.if-s-at.false, lt-ltb _ _ c.if-b-lt128.true) (ap₂ (λ (n j : ℕ). read n j) (omega arith) (omega arith)))

pub overflow_step : goal.overflow_step
overflow_step c = omega arith

pub loop-smaller : goal.loop-smaller
loop-smaller c = omega arith

pub loop-preserved : goal.loop-preserved
unfolding groups
loop-preserved c = let l = c.loop in
    let s = c.args.s.now in
    let more : 4 - l.counter ≡ suc (4 - (l.counter + 1)) = omega arith in (
      rw (add-one, pow-suc) (omega arith),
      l.invariant.1
          ∙ rw (more, lt-ltb _ _ c.if-s-at.false, le-ltb _ _ c.if-b-lt128.false)
          (ap₂ (λ (n j : ℕ). groups (4 - (l.counter + 1)) n j s) (omega (arith, c.type_inv.s l.at)) (omega arith)),
    )

pub returns : goal.returns
unfolding groups
returns c = let l = c.loop in
    let none : 4 - l.counter ≡ 0 = omega arith in
    sym (l.invariant.1 ∙ rw none)
