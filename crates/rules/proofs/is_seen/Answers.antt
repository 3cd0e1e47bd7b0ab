-- `rules::is_seen` meets its contract: by the marks, or for a VPD 01h by the key; an ONIE FDh never.
-- Assumes nothing.
use mathlib.Core.Path.{sym, ◌∙◌}
use lib.ListN.{take}
use Rattle.layout.specs.Editions.{shape}
use Rattle.layout.specs.Write.{fields_in}
use Rattle.laws.proofs.Seen.{AlwaysTwice, vpd-always, onie-always, vendor-unseen, marked-seen}
use Rattle.rules.specs.Fields.{field_labels}
use Rattle.rules.proofs.Seen.{plain-always}
use Rattle.rules.proofs.is_seen.Goals.{in_default-via-in-Vpd+else-code-eq1, in_default-via-in-Onie+else-code-eq253, in_default-via-in_default}
use Rattle.rules.proofs.is_seen.Goals as goal

pub returns-then-known : goal.returns-then-known
returns-then-known c = rw (c.in-Vpd.is, c.if-code-eq1.true) c.seen_key.ensures

pub returns-else-known : goal.returns-else-known
returns-else-known c = rw (c.in-Vpd.is, c.if-code-eq1.true) (c.if-known.false ∙ sym (rw c.in-Vpd.is at (c.requires.key_value c.if-known.false)))

pub returns-in-Onie : goal.returns-in-Onie
returns-in-Onie c = rw (c.in-Onie.is, c.if-code-eq253.true) (sym (vendor-unseen _ _))

pub returns-in_default : goal.returns-in_default
returns-in_default c = let a = c.args in
    let seen = field_labels (shape a.format) a.values.now (take a.n (fields_in a.fields.now)) in
    let always : AlwaysTwice a.format a.code
    = elim c.in_default.branch [
      | in_default-via-in-Vpd+else-code-eq1 w ↦ rw w.in-Vpd.is (vpd-always a.code w.if-code-eq1.false)
      | in_default-via-in-Onie+else-code-eq253 w ↦ rw w.in-Onie.is (onie-always a.code w.if-code-eq253.false)
      | in_default-via-in_default w ↦ plain-always a.format a.code w.in_default.not-Vpd w.in_default.not-Onie
    ] in
    marked-seen a.format a.code a.key.now seen a.seen.now always c.requires.n_in_bounds.1 c.requires.marks
