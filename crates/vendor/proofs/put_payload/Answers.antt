-- `vendor::put_payload` meets its contract: what comes before the check, and the check over it.
-- Assumes nothing.
use Prim.Native.Nat.{◌+◌}
use mathlib.Core.Path.{◌≡◌, ap, sym, ◌∙◌}
use native.Mathlib.Omega.{arith}
use lib.ListN.{length, take, length-append}
use lib.Seq.{length-take-le}
use Rattle.layout.specs.Onie.{four_bytes}
use Rattle.crc.specs.Crc.{check32_of}
use Rattle.output.specs.Placing.{copied}
use Rattle.output.proofs.Overlay.{length-copied, copied-then}
use Rattle.blocks.specs.Payload.{front, payload_of}
use Rattle.blocks.proofs.Lengths.{length_front}
use Rattle.vendor.proofs.Making.{front-there}
use Rattle.vendor.proofs.put_payload.Goals as goal

pub slice_bounds-check32-end-2 : goal.slice_bounds-check32-end-2
slice_bounds-check32-end-2 c = let a = c.args in sym (length-take-le _ _ (omega (arith, ap length c.put_front.ensures, length-copied a.own.now 0 (front a.serial.now a.offsets), c.requires.1)))

pub returns : goal.returns
unfolding payload_of
returns c = let d = c.args.own.now in
    let s = c.args.serial.now in
    let o = c.args.offsets in
    let f = front s o in
    let check : c.check32.result ≡ check32_of f = c.check32.ensures ∙ ap check32_of (ap (take (12 + length s)) c.put_front.ensures ∙ front-there d s o (omega (arith, c.requires.1))) in
    copied-then d 0 f (four_bytes (check32_of f)) c.put_front.ensures (c.copy_at.ensures ∙ ap (copied c.put_front.new.own (12 + length s)) (c.four_bytes-check.ensures ∙ ap four_bytes check)) (omega (arith, c.requires.1, length_front s o, length-append f (four_bytes (check32_of f)))) (omega (arith, length_front s o))
