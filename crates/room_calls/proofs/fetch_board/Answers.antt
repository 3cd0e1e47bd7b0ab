-- `room_calls::fetch_board` meets its contract: 22, the stored bodies, and the part of the file.
-- Assumes nothing.
use mathlib.Core.Path.{sym, ◌∙◌}
use lib.ListN.{get_or}
use Prim.Native.Nat.{ℕ, ◌<◌}
use Rattle.layout.proofs.Passed.{passed}
use Rattle.room_calls.proofs.Opening.{found}
use Rattle.room_calls.proofs.Calling.{positive, lies, fetch-closed, fetch-missing, fetch-stored, fetch-given}
use native.Mathlib.Omega.{arith}
use Rattle.room_calls.proofs.fetch_board.Goals as goal

pub returns-then-own-eq0 : goal.returns-then-own-eq0
returns-then-own-eq0 c = let a = c.args in let bytes : (i : ℕ) → get_or a.file.now i 0 < 256 = λ i. (c.type_inv.file i).fits in let w = found a.form a.edition a.file.now 0 _ a.board (sym c.find_board.ensures ∙ c.in_ok-count.was) in rw c.from.ensures (fetch-missing w bytes (omega (arith, c.if-own-eq0.true)))

pub judge_bodies-requires : goal.judge_bodies-requires
judge_bodies-requires c = let a = c.args in let bytes : (i : ℕ) → get_or a.file.now i 0 < 256 = λ i. (c.type_inv.file i).fits in let w = found a.form a.edition a.file.now 0 _ a.board (sym c.find_board.ensures ∙ c.in_ok-count.was) in (w.stored.whole, w.stored.short)

pub overflow_mul-count : goal.overflow_mul-count
overflow_mul-count c = let a = c.args in let bytes : (i : ℕ) → get_or a.file.now i 0 < 256 = λ i. (c.type_inv.file i).fits in let w = found a.form a.edition a.file.now 0 _ a.board (sym c.find_board.ensures ∙ c.in_ok-count.was) in omega (arith, (lies w.stored bytes).bodies, w.stored.short)

pub overflow_add-count : goal.overflow_add-count
overflow_add-count c = let a = c.args in let bytes : (i : ℕ) → get_or a.file.now i 0 < 256 = λ i. (c.type_inv.file i).fits in let w = found a.form a.edition a.file.now 0 _ a.board (sym c.find_board.ensures ∙ c.in_ok-count.was) in omega (arith, (lies w.stored bytes).bodies, w.stored.short)

pub overflow_add-count-2 : goal.overflow_add-count-2
overflow_add-count-2 c = let a = c.args in let bytes : (i : ℕ) → get_or a.file.now i 0 < 256 = λ i. (c.type_inv.file i).fits in let w = found a.form a.edition a.file.now 0 _ a.board (sym c.find_board.ensures ∙ c.in_ok-count.was) in omega (arith, (lies w.stored bytes).bodies, w.stored.short)

pub returns-in_err-count : goal.returns-in_err-count
returns-in_err-count c = let a = c.args in rw (passed c.from_residual.result c.from_residual.ensures.1) (fetch-closed a.form a.edition a.file.now a.board _ (sym c.find_board.ensures ∙ c.in_err-count.was))

pub returns-in_err-judge_bodies : goal.returns-in_err-judge_bodies
returns-in_err-judge_bodies c = let a = c.args in let bytes : (i : ℕ) → get_or a.file.now i 0 < 256 = λ i. (c.type_inv.file i).fits in let w = found a.form a.edition a.file.now 0 _ a.board (sym c.find_board.ensures ∙ c.in_ok-count.was) in rw (passed c.from_residual-in_err-judge_bodies.result c.from_residual-in_err-judge_bodies.ensures.1) (fetch-stored w bytes (positive _ c.if-own-eq0.false) (sym c.in_err-judge_bodies.was ∙ c.judge_bodies.ensures))

pub returns : goal.returns
returns c = let a = c.args in let bytes : (i : ℕ) → get_or a.file.now i 0 < 256 = λ i. (c.type_inv.file i).fits in let w = found a.form a.edition a.file.now 0 _ a.board (sym c.find_board.ensures ∙ c.in_ok-count.was) in rw c.at.ensures (fetch-given w bytes (positive _ c.if-own-eq0.false) (sym c.in_ok-judge_bodies.was ∙ c.judge_bodies.ensures))
