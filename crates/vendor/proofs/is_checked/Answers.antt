-- `vendor::is_checked` meets its contract: it compares the last four bytes with the check over those before them.
-- Assumes nothing.
use Prim.Native.Nat.{◌-◌}
use mathlib.Core.Path.{◌≡◌, sym, ◌∙◌}
use native.Mathlib.Omega.{arith}
use lib.ListN.{length, take, drop, length-drop}
use lib.Seq.{take_all}
use Rattle.crc.specs.Crc.{check32_of}
use Rattle.layout.specs.Bytes.{part}
use Rattle.layout.specs.Onie.{four_bytes}
use Rattle.blocks.specs.Payload.{checked}
use Rattle.parts.proofs.Seal.{cut_short}
use Rattle.vendor.proofs.Matching.{same_listed}
use Rattle.vendor.proofs.is_checked.Goals as goal

pub returns-in-Some : goal.returns-in-Some
unfolding checked part
returns-in-Some c = let s = c.args.payload.now in
    let w = c.in-Some.ensures.cases in
    let last : c.in-Some.check.now ≡ take 4 (drop (length s - 4) s) = w.1 ∙ sym (take_all 4 (drop (length s - 4) s) (omega (arith, length-drop (length s - 4) s))) in
    c.eq.ensures ∙ same_listed c.in-Some.check.now c.four_bytes.result ∙ rw (last, c.four_bytes.ensures, c.check32.ensures, w.0)

pub returns-in-None : goal.returns-in-None
unfolding checked
returns-in-None c = let s = c.args.payload.now in cut_short s (four_bytes (check32_of (take (length s - 4) s))) (length s - 4) (omega arith) (omega (arith, c.in-None.ensures.cases))
