-- `accept::Span::is_seen` meets its contract: by the marks, or for a VPD 01h by the key; an ONIE FDh never.
-- Assumes nothing.
use Prim.Native.Nat.{ℕ}
use mathlib.Core.Path.{◌≡◌, refl, sym}
use Rattle.layout.specs.declared.Format.{Format}
use Rattle.layout.specs.declared.Format.TheVariants.{Fboss, Vpd, Tiny, Onie}
use Rattle.layout.specs.Walk.{labels_of}
use Rattle.laws.proofs.Seen.{AlwaysTwice, fboss-always, tiny-always, vpd-always, onie-always, vendor-unseen}
use Rattle.accept.proofs.Seen.{marked-seen}
use Rattle.accept.proofs.Span.is_seen.Goals as goal
use Rattle.accept.proofs.Span.is_seen.Goals.{in_default-via-in-Vpd+else-code-eq1, in_default-via-in-Onie+else-code-eq253, in_default-via-in_default}

others-always : (f : Format) (c : ℕ) → (f ≡ Vpd → ⊥) → (f ≡ Onie → ⊥) → AlwaysTwice f c
others-always Fboss c v o = fboss-always c
others-always Vpd c v o = absurd (v refl)
others-always Tiny c v o = tiny-always c
others-always Onie c v o = absurd (o refl)

pub returns-in-Onie : goal.returns-in-Onie
returns-in-Onie c past shut passed marks unseen = rw (c.in-Onie.is, c.if-code-eq253.true) (sym (vendor-unseen _ (labels_of past)))

pub returns-in_default : goal.returns-in_default
returns-in_default c past shut passed marks unseen = let a = c.args.self in
    let code = c.args.code in
    let always : AlwaysTwice a.format code = elim c.in_default.branch [
      | in_default-via-in-Vpd+else-code-eq1 w ↦ rw w.in-Vpd.is (vpd-always code w.if-code-eq1.false)
      | in_default-via-in-Onie+else-code-eq253 w ↦ rw w.in-Onie.is (onie-always code w.if-code-eq253.false)
      | in_default-via-in_default w ↦ others-always a.format code w.in_default.not-Vpd w.in_default.not-Onie
    ] in
    marked-seen a.format code c.args.key.now past c.args.seen.now always c.requires.1 marks
