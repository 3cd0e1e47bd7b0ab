-- `vendor::put_front` meets its contract: four parts, one where the other ends.
-- Assumes nothing.
use Prim.Native.Nat.{ℕ, ◌+◌}
use mathlib.Core.Path.{ap, ◌∙◌}
use mathlib.Core.List.{List, [], ◌∷◌, ◌++◌, append_assoc}
use native.Mathlib.Omega.{arith}
use lib.ListN.{length, length-append}
use Rattle.output.specs.Placing.{copied}
use Rattle.output.proofs.Overlay.{copied-then}
use Rattle.blocks.specs.Offset.{offset_bytes}
use Rattle.vendor.proofs.put_front.Goals as goal

pub returns : goal.returns
returns c = let d = c.args.own.now in
    let s = c.args.serial.now in
    let eight = offset_bytes c.args.offsets in
    let first : List ℕ = length s ∷ [] in
    let head : List ℕ = 0x00 ∷ 0x09 ∷ 0x00 ∷ [] in
    let two = copied-then d 0 first s c.copy_at.ensures c.copy_at-2.ensures (omega (arith, c.requires.1)) (omega arith) in
    let three = copied-then d 0 (first ++ s) head two c.copy_at-3.ensures (omega (arith, c.requires.1, length-append s head)) (omega arith) in
    let eighth = c.copy_at-4.ensures ∙ ap (copied c.copy_at-3.new.out (1 + length s + 3)) c.offset_bytes.ensures in
    let four = copied-then d 0 ((first ++ s) ++ head) eight three eighth (omega (arith, c.requires.1, length-append s head, length-append (s ++ head) eight)) (omega (arith, length-append s head)) in
    four ∙ ap (copied d 0) (ap (λ (y : List ℕ). length s ∷ y) (append_assoc s head eight))
