-- An answer and a memory that are those of an outcome.
-- Assumes nothing.
use mathlib.Core.Path.{◌≡◌, ap, sym, ◌∙◌}
use mathlib.Core.List.{List}
use Prim.Native.Nat.{ℕ}
use Rattle.layout.specs.Answers.{Made}
use Rattle.layout.specs.Write.{Outcome}

pub outcome : {x : Outcome} {a : Made} {m : List ℕ} → x ≡ record { answer = a; memory = m } → (a ≡ x.answer) × (m ≡ x.memory)
outcome e = (sym (ap (λ (x : Outcome). x.answer) e), sym (ap (λ (x : Outcome). x.memory) e))

-- those of one outcome are those of one that is the same
pub outcome-as : {x y : Outcome} {a : Made} {m : List ℕ} → (a ≡ x.answer) × (m ≡ x.memory) → y ≡ x → (a ≡ y.answer) × (m ≡ y.memory)
outcome-as e q = (e.0 ∙ sym (ap (λ (x : Outcome). x.answer) q), e.1 ∙ sym (ap (λ (x : Outcome). x.memory) q))
