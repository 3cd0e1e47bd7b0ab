-- `room_calls::remove_board` meets its contract: 22, the stored bodies, and the file without a board.
-- Assumes nothing.
use mathlib.Core.Path.{refl, sym, ◌∙◌}
use Prim.Native.Nat.{ℕ, ◌<◌}
use mathlib.Core.List.{[]}
use lib.ListN.{length, get_or}
use Rattle.layout.proofs.Passed.{passed}
use Rattle.rooms.specs.Calls.{present}
use Rattle.layout.proofs.Outcomes.{outcome, outcome-as}
use Rattle.room_calls.proofs.Opening.{found}
use Rattle.room_calls.proofs.Calling.{change-closed, change-denied, change-asked, change-stored, change-put, positive, lies, missing, given, none-fine, none_row, none-body}
use borrow.Author.Rules.{rules}
use native.Mathlib.Omega.{arith}
use Rattle.room_calls.proofs.remove_board.Goals as goal

pub returns-then-t-eq0 : goal.returns-then-t-eq0
returns-then-t-eq0 c = let a = c.args in let bytes : (i : ℕ) → get_or a.file.now i 0 < 256 = λ i. (c.type_inv.file i).fits in let w = found a.form a.edition a.file.now (length a.out.now) _ a.board (sym c.find_board.ensures ∙ c.in_ok-t.was) in rw c.from.ensures (outcome (change-denied w present [] a.out.now refl (missing w.stored bytes (omega (arith, c.if-t-eq0.true))).0))

pub judge_bodies-requires : goal.judge_bodies-requires
judge_bodies-requires c = let a = c.args in let bytes : (i : ℕ) → get_or a.file.now i 0 < 256 = λ i. (c.type_inv.file i).fits in let w = found a.form a.edition a.file.now (length a.out.now) _ a.board (sym c.find_board.ensures ∙ c.in_ok-t.was) in (w.stored.whole, w.stored.short)

pub put_file-requires : goal.put_file-requires
put_file-requires c = let a = c.args in let bytes : (i : ℕ) → get_or a.file.now i 0 < 256 = λ i. (c.type_inv.file i).fits in let w = found a.form a.edition a.file.now (length a.out.now) _ a.board (sym c.find_board.ensures ∙ c.in_ok-t.was) in (lies w.stored bytes, w.stored.short, search rules, w.lent_short)

pub returns-in_err-t : goal.returns-in_err-t
returns-in_err-t c = let a = c.args in rw (passed c.from_residual.result c.from_residual.ensures.1) (outcome (change-closed a.form a.edition a.file.now a.board present [] a.out.now _ (sym c.find_board.ensures ∙ c.in_err-t.was)))

pub returns-in_err-judge_bodies : goal.returns-in_err-judge_bodies
returns-in_err-judge_bodies c = let a = c.args in let bytes : (i : ℕ) → get_or a.file.now i 0 < 256 = λ i. (c.type_inv.file i).fits in let w = found a.form a.edition a.file.now (length a.out.now) _ a.board (sym c.find_board.ensures ∙ c.in_ok-t.was) in rw (passed c.from_residual-in_err-judge_bodies.result c.from_residual-in_err-judge_bodies.ensures.1) (outcome (change-asked w present [] a.out.now refl (given w.stored bytes (positive _ c.if-t-eq0.false)).present_is ∙ change-stored w.stored bytes a.edition [] a.out.now (sym c.in_err-judge_bodies.was ∙ c.judge_bodies.ensures)))

pub returns : goal.returns
returns c = let a = c.args in let bytes : (i : ℕ) → get_or a.file.now i 0 < 256 = λ i. (c.type_inv.file i).fits in let w = found a.form a.edition a.file.now (length a.out.now) _ a.board (sym c.find_board.ensures ∙ c.in_ok-t.was) in outcome-as (c.put_file.ensures.value, c.put_file.ensures.out_after) (change-asked w present [] a.out.now refl (given w.stored bytes (positive _ c.if-t-eq0.false)).present_is ∙ change-put w.stored bytes a.edition [] a.out.now (sym c.in_ok-judge_bodies.was ∙ c.judge_bodies.ensures) (none-fine a.edition) none_row none-body)
