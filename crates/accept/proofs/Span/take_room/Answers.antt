-- `accept::Span::take_room` meets its contract: the pass over frames and rules, what the format asks of its room, and the check, whose refusals come after a broken frame's and before a broken rule's.
-- Assumes nothing.
use Prim.Native.Nat.{ℕ, ◌+◌}
use mathlib.Core.Path.{◌≡◌, ap, sym, ◌∙◌}
use mathlib.Core.Bool.{Bool, true, false}
use native.Mathlib.Omega.{arith}
use Rattle.std.specs.Prelude.{Err}
use Rattle.layout.specs.Bytes.{if, refusal}
use Rattle.layout.specs.Shape.{Judged, fine, faulty}
use Rattle.layout.specs.Editions.{shape}
use Rattle.layout.proofs.Passed.{passed}
use Rattle.laws.proofs.Rooms.{closing-short}
use Rattle.accept.proofs.Taking.{ends-done, room-stops, room-unfilled, room-unsealed, room-faulty, room-fine}
use Rattle.accept.proofs.Span.take_room.Goals as goal

-- what the format's question comes to, by its answer
asked : {x : Judged} (b c : Bool) → x ≡ if b (λ _. fine) (λ _. faulty 5 9) → b ≡ c → x ≡ if c (λ _. fine) (λ _. faulty 5 9)
asked b c e q = e ∙ ap (λ (t : Bool). if t (λ _. fine) (λ _. faulty 5 9)) q

pub returns-in_err-pass : goal.returns-in_err-pass
returns-in_err-pass c = let a = c.args.self in
    passed c.from_residual.result c.from_residual.ensures.1 ∙ sym (room-stops a.format a.edition c.args.image.now a.start a.end _ (sym c.read_room.ensures ∙ c.in_err-pass.was))

pub returns-then-not-is_filled : goal.returns-then-not-is_filled
returns-then-not-is_filled c = let a = c.args.self in
    let image = c.args.image.now in
    let x = c.in_ok-pass.pass in
    let d = ends-done a.format a.edition image a.start a.end x (sym c.read_room.ensures ∙ c.in_ok-pass.was) in
    let l : (shape a.format).filled x.over a.end ≡ faulty 5 9 = asked c.is_filled.result false c.is_filled.ensures (c.if-not-is_filled.true) in
    ap Err c.at.ensures ∙ sym (room-unfilled a.format a.edition image a.start a.end x d l)

pub overflow_add-pass : goal.overflow_add-pass
overflow_add-pass c = let a = c.args.self in
    let image = c.args.image.now in
    let x = c.in_ok-pass.pass in
    let d = ends-done a.format a.edition image a.start a.end x (sym c.read_room.ensures ∙ c.in_ok-pass.was) in
    let short = closing-short a.format in
    omega (arith, d.bound c.requires.0, c.requires.1, c.closing_length.ensures)

pub returns-then-not-is_sealed : goal.returns-then-not-is_sealed
returns-then-not-is_sealed c = let a = c.args.self in
    let image = c.args.image.now in
    let x = c.in_ok-pass.pass in
    let d = ends-done a.format a.edition image a.start a.end x (sym c.read_room.ensures ∙ c.in_ok-pass.was) in
    let l : (shape a.format).filled x.over a.end ≡ fine = asked c.is_filled.result true c.is_filled.ensures (c.if-not-is_filled.false) in
    let s = sym c.is_sealed.ensures ∙ c.if-not-is_sealed.true in
    ap Err c.at-then-not-is_sealed.ensures ∙ ap (λ (k : ℕ). Err (refusal 10 (x.over + k))) c.closing_length.ensures ∙ sym (room-unsealed a.format a.edition image a.start a.end x d l s)

pub returns : goal.returns
returns c = let a = c.args.self in
    let image = c.args.image.now in
    let x = c.in_ok-pass.pass in
    let d = ends-done a.format a.edition image a.start a.end x (sym c.read_room.ensures ∙ c.in_ok-pass.was) in
    let l : (shape a.format).filled x.over a.end ≡ fine = asked c.is_filled.result true c.is_filled.ensures (c.if-not-is_filled.false) in
    let s = sym c.is_sealed.ensures ∙ c.if-not-is_sealed.false in
    sym (room-fine a.format a.edition image a.start a.end x d c.in_ok-pass-2.was l s)

pub returns-in_err-pass-2 : goal.returns-in_err-pass-2
returns-in_err-pass-2 c = let a = c.args.self in
    let image = c.args.image.now in
    let x = c.in_ok-pass.pass in
    let d = ends-done a.format a.edition image a.start a.end x (sym c.read_room.ensures ∙ c.in_ok-pass.was) in
    let l : (shape a.format).filled x.over a.end ≡ fine = asked c.is_filled.result true c.is_filled.ensures (c.if-not-is_filled.false) in
    let s = sym c.is_sealed.ensures ∙ c.if-not-is_sealed.false in
    passed c.from_residual-in_err-pass-2.result c.from_residual-in_err-pass-2.ensures.1 ∙ sym (room-faulty a.format a.edition image a.start a.end x _ d c.in_err-pass-2.was l s)
