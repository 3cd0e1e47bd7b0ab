-- `rules::seen_key` meets its contract: the key is looked for among the fields from i on.
-- Assumes nothing.
use mathlib.Core.Path.{◌≡◌, sym}
use mathlib.Core.Bool.{true, false}
use Rattle.layout.specs.Write.{fields_in}
use Rattle.rules.proofs.Seen.{key_has, has-key, has-not, look-first, look_hit, look-on, look-over}
use Rattle.rules.proofs.seen_key.Goals.{else-x-eq1-via-then-x-eq1+else-same_bytes, else-x-eq1-via-else-x-eq1}
use Rattle.rules.proofs.seen_key.Goals as goal

pub loop-i-init : goal.loop-i-init
loop-i-init c = let a = c.args in
    look-first a.values.now a.key.now (fields_in a.fields.now) a.n

pub returns-then-same_bytes : goal.returns-then-same_bytes
returns-then-same_bytes c = let a = c.args in
    let l = c.loop-i in
    let t : key_has a.values.now a.key.now c.field_at-x.result ≡ true = has-key a.values.now a.key.now c.field_at-x.result c.if-x-eq1.true c.field_key-other.ensures c.same_bytes.ensures c.if-same_bytes.true in
    sym (look_hit a.values.now a.key.now (fields_in a.fields.now) a.n l.i c.requires l.invariant c.loop-i-test.true (rw c.field_at-x.ensures at t))

pub loop-i-preserved : goal.loop-i-preserved
loop-i-preserved c = let a = c.args in
    let l = c.loop-i in
    let t : key_has a.values.now a.key.now c.field_at-x.result ≡ false
    = elim c.else-x-eq1.branch [
      | else-x-eq1-via-then-x-eq1+else-same_bytes w ↦ has-key a.values.now a.key.now c.field_at-x.result w.if-x-eq1.true c.field_key-other.ensures w.same_bytes.ensures w.if-same_bytes.false
      | else-x-eq1-via-else-x-eq1 w ↦ has-not a.values.now a.key.now c.field_at-x.result w.if-x-eq1.false
    ] in
    look-on a.values.now a.key.now (fields_in a.fields.now) a.n l.i c.requires l.invariant c.loop-i-test.true (rw c.field_at-x.ensures at t)

pub returns : goal.returns
returns c = let a = c.args in
    sym (look-over a.values.now a.key.now (fields_in a.fields.now) a.n c.loop-i.i c.requires c.loop-i.invariant c.loop-i-test.false)
