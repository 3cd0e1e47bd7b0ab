-- `tiny::tiny_sealed` meets its contract: the part that is compared is one byte, or none past the end.
-- Assumes nothing.
use mathlib.Core.Path.{◌≡◌, refl, ap, ◌∙◌}
use mathlib.Core.Bool.{Bool, true, false}
use native.Mathlib.Omega.{arith}
use native.Mathlib.Nat.{add-zero}
use lib.ListN.{drop_of_length-le, length-take}
use lib.Seq.{drop-cons}
use lib.Dec.{eqb}
use borrow.Author.Tests.{le-ltb}
use Rattle.layout.specs.Bytes.{if, part, same_bytes}
use Rattle.layout.specs.Tiny.{tiny}
use Rattle.layout.specs.Read.{sealed}
use Rattle.tiny.proofs.tiny_sealed.Goals as goal

-- A test chooses itself.
chosen : (b : Bool) → b ≡ if b (λ _. true) (λ _. false)
chosen true = refl
chosen false = refl

pub slice_bounds-check8-end : goal.slice_bounds-check8-end
slice_bounds-check8-end c = simp length-take (omega arith)

pub returns-then-p-image : goal.returns-then-p-image
unfolding sealed tiny part same_bytes
returns-then-p-image c = let a = c.args in
    rw (add-zero, drop-cons a.image.now a.p 0 (omega arith)) (ap (eqb _) c.check8.ensures ∙ chosen _)

pub returns-else-p-image : goal.returns-else-p-image
unfolding sealed tiny part same_bytes
returns-else-p-image c = rw (add-zero c.args.p, drop_of_length-le _ c.if-p-image.false, le-ltb _ _ c.if-p-image.false)
