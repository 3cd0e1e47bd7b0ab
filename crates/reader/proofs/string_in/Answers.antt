-- `reader::string_in` meets its contract. The loop's invariant: the string that is sought is the one of number `skip` from byte i on, where `first` is the first byte of the string
-- that i is in.
-- Assumes nothing.
use Prim.Native.Nat.{ℕ, ◌≤◌, ◌<◌}
use mathlib.Core.Path.{ap, sym, ◌∙◌}
use native.Mathlib.Omega.{arith}
use native.Mathlib.Nat.{add-zero}
use lib.ListN.{get_or}
use Rattle.layout.specs.Calls.{string_in}
use Rattle.reader.proofs.Strings.{string-goes, string-ends, string-passes, string-over}
use Rattle.reader.proofs.string_in.Goals as goal
use Rattle.reader.proofs.string_in.Goals.{then-byte-ge128+else-skip-eq0, else-byte-ge128}

pub loop-i-init : goal.loop-i-init
loop-i-init c = let a = c.args in
    (omega arith, ap (λ (p : ℕ). string_in a.pool.now p 0 a.number.0) (sym (add-zero a.place.0)))

pub returns-then-skip-eq0 : goal.returns-then-skip-eq0
returns-then-skip-eq0 c = let a = c.args in
    let s = a.pool.now in
    let l = c.loop-i in
    rw c.at.ensures
    (sym (l.invariant.1 ∙ string-ends s a.place.0 l.first l.i l.skip l.invariant.0 c.loop-i-test.true c.if-byte-ge128.true c.if-skip-eq0.true))

pub loop-i-preserved : goal.loop-i-preserved
loop-i-preserved c = let a = c.args in
    let s = a.pool.now in
    let l = c.loop-i in
    elim c.if-byte-ge128.branch [
      | then-byte-ge128+else-skip-eq0 w ↦
          let high : 128 ≤ get_or s l.i 0 = w.if-byte-ge128.true in
          let same = l.invariant.1 ∙ string-passes s a.place.0 l.first l.i l.skip l.invariant.0 c.loop-i-test.true high (omega (arith, w.if-skip-eq0.false)) in
          (omega (arith, w.first-is), rw (w.skip-is, w.first-is) same)
      | else-byte-ge128 w ↦
          let low : get_or s l.i 0 < 128 = w.if-byte-ge128.false in
          let same = l.invariant.1 ∙ string-goes s a.place.0 l.first l.i l.skip l.invariant.0 c.loop-i-test.true low in
          (omega (arith, w.first-is), rw (w.skip-is, w.first-is) same)
    ]

pub returns : goal.returns
returns c = let a = c.args in
    let s = a.pool.now in
    let l = c.loop-i in
    rw c.from.ensures (sym (l.invariant.1 ∙ string-over s a.place.0 l.first l.i l.skip l.invariant.0 c.loop-i-test.false))
