-- `vendor::take_room` meets its contract: 17 where nothing was found, and else what the joined payload comes to.
-- Assumes nothing.
use Prim.Native.Nat.{ℕ}
use mathlib.Core.Path.{◌≡◌, ap, sym, ◌∙◌}
use mathlib.Core.List.{List}
use native.Mathlib.Omega.{arith}
use lib.ListN.{take}
use Rattle.layout.specs.Walk.{Content}
use Rattle.blocks.specs.Payload.{joined, payload_says}
use Rattle.blocks.specs.Vendor.{Taking, taking}
use Rattle.vendor.specs.Pieces.{matching_in}
use Rattle.vendor.proofs.Taking.{outcome, joined-there, none-match, some-match}
use Rattle.vendor.proofs.take_room.Goals as goal

pub returns-in_default : goal.returns-in_default
returns-in_default c = let a = c.args in
    let w = outcome (none-match (matching_in a.image.now a.start a.end) a.buffer.now (sym c.join.ensures.value ∙ c.in_default.is)) in
    rw c.from.ensures (record { value = w.0; buffer_after = w.1 })

pub returns : goal.returns
returns c = let a = c.args in
    let ms : List Content = matching_in a.image.now a.start a.end in
    let some = some-match ms a.buffer.now (sym c.join.ensures.value ∙ c.in-Some.is) in
    let payload : take c.in-Some.len c.join.new.own ≡ joined ms =
    rw c.join.ensures.own_after (joined-there _ (joined ms) _ some.1 (omega (arith, some.1, c.join.ensures.len_in_bounds))) in
    let t = c.take_payload.ensures in
    record {
      value = t.value ∙ ap (λ (p : List ℕ). (taking (payload_says p) p a.buffer.now).answer) payload ∙ ap (λ (x : Taking). x.answer) (sym some.0);
      buffer_after = t.buffer_after ∙ ap (λ (p : List ℕ). (taking (payload_says p) p a.buffer.now).memory) payload ∙ ap (λ (x : Taking). x.memory) (sym some.0);
    }
