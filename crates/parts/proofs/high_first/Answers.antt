-- `parts::high_first` meets its contract: a loop that takes in each byte that is there.
-- Assumes nothing.
use Prim.Native.Nat.{ℕ, ◌+◌, ◌≤◌, ◌<◌}
use mathlib.Core.Path.{◌≡◌, ◌∙◌}
use mathlib.Core.List.{List}
use native.Mathlib.Omega.{arith}
use lib.ListN.{length, get_or, take, drop, length-take, length-drop}
use Rattle.std.proofs.lemmas.List.{get_or-take, get_or-drop, get_or_default, length_push}
use Rattle.std.proofs.lemmas.Iterator.{YieldsList-from_slice, YieldsList-from_take}
use Rattle.std.proofs.lemmas.Iterator.Adapters.{YieldsList-from_skip}
use Rattle.std.proofs.lemmas.Iterator.Consumers.{YieldsList-turn, YieldsList-end}
use Rattle.layout.specs.Bytes.{part}
use Rattle.parts.proofs.Loops.{small, takes, taken}
use Rattle.parts.proofs.high_first.Goals as goal

-- The part has n bytes at most, and they are bytes.
module _ (s : List ℕ) (at n : ℕ) where
  most : length (part at n s) ≤ n
  unfolding part
  most = omega (arith, length-take n (drop at s))

  byte : (k b : ℕ) → ((i : ℕ) → get_or s i 0 < 256) → (k < length (part at n s)) × (b ≡ get_or (part at n s) k b) → b < 256
  unfolding part
  byte k b bytes next =
      let l : k < length (take n (drop at s)) = next.0 in
      let e : b ≡ get_or s (at + k) b = next.1 ∙ get_or-take n (drop at s) k b (omega (arith, length-take n (drop at s))) ∙ get_or-drop at s k b in
      let f : get_or s (at + k) b ≡ get_or s (at + k) 0 = get_or_default s (at + k) b 0 (omega (arith, length-take n (drop at s), length-drop at s)) in
      omega (arith, bytes (at + k))

pub overflow_mul-number : goal.overflow_mul-number
unfolding part
overflow_mul-number c =
    let e = YieldsList-from_take c.args.n (YieldsList-from_skip c.args.at (YieldsList-from_slice c.args.s.now cc) cc) cc in
    let t = YieldsList-turn e c.loop-b.yielded _ c.loop-b.yielded_by _ _ c.in-Some.b c.in-Some.is c.next.ensures.steps in
    omega (arith, small (part c.args.at c.args.n c.args.s.now) _ _ c.loop-b.invariant (omega (arith, most c.args.s.now c.args.at c.args.n)) t.0)

pub overflow_add-number : goal.overflow_add-number
unfolding part
overflow_add-number c =
    let e = YieldsList-from_take c.args.n (YieldsList-from_skip c.args.at (YieldsList-from_slice c.args.s.now cc) cc) cc in
    let t = YieldsList-turn e c.loop-b.yielded _ c.loop-b.yielded_by _ _ c.in-Some.b c.in-Some.is c.next.ensures.steps in
    omega (
      arith,
      small (part c.args.at c.args.n c.args.s.now) _ _ c.loop-b.invariant (omega (arith, most c.args.s.now c.args.at c.args.n)) t.0,
      byte c.args.s.now c.args.at c.args.n _ _ (λ i. (c.type_inv.s i).fits) t,
    )

pub loop-b-preserved : goal.loop-b-preserved
unfolding part
loop-b-preserved c =
    let e = YieldsList-from_take c.args.n (YieldsList-from_skip c.args.at (YieldsList-from_slice c.args.s.now cc) cc) cc in
    let t = YieldsList-turn e c.loop-b.yielded _ c.loop-b.yielded_by _ _ c.in-Some.b c.in-Some.is c.next.ensures.steps in
    rw (length_push, c.from.ensures)
    (takes (part c.args.at c.args.n c.args.s.now) _ _ c.loop-b.invariant _ t (byte c.args.s.now c.args.at c.args.n _ _ (λ i. (c.type_inv.s i).fits) t))

pub returns : goal.returns
unfolding part
returns c =
    let e = YieldsList-from_take c.args.n (YieldsList-from_skip c.args.at (YieldsList-from_slice c.args.s.now cc) cc) cc in
    let t = YieldsList-end e c.loop-b.yielded _ c.loop-b.yielded_by _ _ c.in-None.is c.next.ensures.steps in
    taken (part c.args.at c.args.n c.args.s.now) _ _ c.loop-b.invariant c.args.n (most c.args.s.now c.args.at c.args.n) t.1
