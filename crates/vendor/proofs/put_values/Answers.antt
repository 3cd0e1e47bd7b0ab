-- `vendor::put_values` meets its contract: 12 where the values do not fit, and else the payload is made and cut.
-- Assumes nothing.
use Prim.Native.Nat.{ℕ, ◌+◌, ◌*◌}
use mathlib.Core.Path.{◌≡◌, ap, sym, ◌∙◌}
use mathlib.Core.List.{List}
use native.Mathlib.Omega.{arith}
use lib.ListN.{length, take}
use Rattle.std.specs.Prelude.{Ok}
use Rattle.output.specs.Placing.{copied}
use Rattle.blocks.specs.Payload.{payload_of, cut_into}
use Rattle.blocks.specs.Vendor.{pieces_in}
use Rattle.vendor.proofs.Taking.{joined-there}
use Rattle.blocks.proofs.Lengths.{length-payload, length-values}
use Rattle.layout.proofs.Outcomes.{outcome}
use Rattle.vendor.proofs.Making.{values-short, values-fit}
use Rattle.vendor.proofs.put_values.Goals as goal

pub returns-then-n-gt65536 : goal.returns-then-n-gt65536
returns-then-n-gt65536 c = let s = c.args.serial.now in
    let o = c.args.offsets in
    let ps = pieces_in c.args.pieces.now in
    let d = c.args.out.now in rw c.from.ensures (let w = outcome (values-short s o ps c.requires.3 d (omega (arith, c.requires.0, c.requires.2, c.if-n-gt65536.true))) in record { value = w.0; out_after = w.1 })

pub returns-then-out-total : goal.returns-then-out-total
returns-then-out-total c = let s = c.args.serial.now in
    let o = c.args.offsets in
    let ps = pieces_in c.args.pieces.now in
    let d = c.args.out.now in rw c.from-then-out-total.ensures (let w = outcome (values-short s o ps c.requires.3 d (omega (arith, c.requires.2, c.if-out-total.true))) in record { value = w.0; out_after = w.1 })

pub put_pieces-requires : goal.put_pieces-requires
put_pieces-requires c = let s = c.args.serial.now in
    let o = c.args.offsets in
    let ps = pieces_in c.args.pieces.now in
    let d = c.args.out.now in
    let payload : take (16 + length s) c.put_payload.new.own ≡ payload_of s o = rw c.put_payload.ensures (joined-there _ (payload_of s o) (16 + length s) (sym (length-payload s o)) (omega (arith, c.requires.1))) in
    (c.requires.0, c.requires.3 ∙ sym (ap length payload ∙ length-payload s o), omega (arith, ap (λ (y : List ℕ). length (cut_into ps y)) payload, length-values s o ps c.requires.3, c.requires.2, c.if-out-total.false))

pub returns : goal.returns
returns c = let s = c.args.serial.now in
    let o = c.args.offsets in
    let ps = pieces_in c.args.pieces.now in
    let d = c.args.out.now in
    let payload : take (16 + length s) c.put_payload.new.own ≡ payload_of s o = rw c.put_payload.ensures (joined-there _ (payload_of s o) (16 + length s) (sym (length-payload s o)) (omega (arith, c.requires.1))) in
    let total = ap (λ (n : ℕ). Ok (5 * n + (16 + length s))) c.requires.2 in
    let g = outcome (values-fit s o ps c.requires.3 d (omega (arith, c.requires.2, c.if-out-total.false))) in record { value = total ∙ g.0; out_after = c.put_pieces.ensures ∙ ap (λ (y : List ℕ). copied d 0 (cut_into ps y)) payload ∙ g.1 }
