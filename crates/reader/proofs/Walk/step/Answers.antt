-- `reader::Walk::step` meets its contract: a step answers as entry n, and n of an entry that is found is small.
-- Assumes nothing.
use Prim.Native.Nat.{ℕ, ◌+◌}
use mathlib.Core.Path.{◌≡◌, refl, ap, sym, ◌∙◌}
use mathlib.Core.Bool.{true, false}
use native.Mathlib.Omega.{arith}
use Rattle.std.specs.Prelude.{Ok, Err}
use Rattle.std.specs.Result.{is_ok}
use Rattle.layout.specs.Answers.{Lookup}
use Rattle.layout.specs.Calls.{moved, step_from}
use Rattle.reader.proofs.Rooms.{found_below}
use Rattle.reader.proofs.Walk.step.Goals as goal

moves : (n : ℕ) (x : Lookup) → is_ok x ≡ true → moved n x ≡ n + 1
moves n (Ok e) q = refl
moves n (Err r) q = cc

stays : (n : ℕ) (x : Lookup) → is_ok x ≡ false → moved n x ≡ n
stays n (Ok e) q = cc
stays n (Err r) q = refl

pub overflow_add-next : goal.overflow_add-next
overflow_add-next c = let a = c.args in
    let w = a.self in
    let ok = ap (λ (x : Lookup). is_ok x) (sym c.entry_at-answer.ensures) ∙ sym c.is_ok.ensures.value ∙ c.if-is_ok.true in
    omega (arith, found_below w.format w.edition a.image.now w.entry ok)

pub returns-then-is_ok : goal.returns-then-is_ok
unfolding step_from
returns-then-is_ok c =
    rw (← c.entry_at-answer.ensures, moves c.args.self.entry c.entry_at-answer.result (sym c.is_ok.ensures.value ∙ c.if-is_ok.true))

pub returns-else-is_ok : goal.returns-else-is_ok
unfolding step_from
returns-else-is_ok c =
    rw (← c.entry_at-answer.ensures, stays c.args.self.entry c.entry_at-answer.result (sym c.is_ok.ensures.value ∙ c.if-is_ok.false))
