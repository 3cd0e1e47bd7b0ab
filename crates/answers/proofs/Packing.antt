-- What fits its bits is taken out of the packed answer as it was put in.
-- Assumes nothing.
use Prim.Native.Nat.{ℕ, ◌<◌}
use mathlib.Core.Path.{◌≡◌, refl}
use mathlib.Core.List.{List}
use mathlib.Core.Bool.{Bool, true, false}
use native.Mathlib.Omega.{arith}
use lib.Dec.{eqb}
use borrow.Author.Tests.{eqb-true, eqb-false}
use Rattle.layout.specs.declared.Part.{Part}
use Rattle.layout.specs.declared.Entry.{Entry}
use Rattle.layout.specs.declared.Refusal.{Refusal}
use Rattle.layout.specs.Bytes.{between, all}
use Rattle.layout.specs.Calls.{Told, told, told_refusal}
use Rattle.records.specs.Packed.{packed}
use Rattle.promises.proofs.FormatNumbers.{Low, tabled}
use Rattle.answers.specs.Whole.{Whole}

whole : (t : Told) → t.number < 32 → t.place < 576460752303423488 → t.count < 134217728 → t.part.place.0 < 4294967296 → Whole t
unfolding packed
whole t n p c x = go (eqb t.number 0) refl
  where
    go : (b : Bool) → eqb t.number 0 ≡ b → Whole t
    go true e =
        let z = eqb-true t.number 0 e in
        record { number = rw e (omega arith); place = λ some. absurd (some z); count = λ _. rw e (omega arith); part = λ _. rw e (omega arith) }
    go false e =
        let some = eqb-false t.number 0 e in
        record { number = rw e (omega arith); place = λ _. rw e (omega arith); count = λ z. absurd (some z); part = λ z. absurd (some z) }

-- a refusal by one of the numbers 1 to 23, at a place that is not too far
pub whole-refusal : (numbers : List ℕ) (most : ℕ) (r : Refusal) → all (between 1 23) numbers ≡ true → most < 576460752303423488 →
    Low numbers most r.number r.place.0 → Whole (told_refusal r)
whole-refusal numbers most r table lt l =
    let n = tabled numbers r.number table l.number in
    whole (told_refusal r) (omega (arith, n.1)) (omega (arith, l.place)) (omega arith) (omega arith)

pub whole-told : (n : ℕ) (x : Part) (es : List Entry) → n < 134217728 → x.place.0 < 4294967296 → Whole (told n x es)
whole-told n x es c p = whole (told n x es) (omega arith) (omega arith) c p
