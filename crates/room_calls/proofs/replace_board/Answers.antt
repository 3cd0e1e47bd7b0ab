-- `room_calls::replace_board` meets its contract: 22, and the file with another body for a board.
-- Assumes nothing.
use mathlib.Core.Path.{refl, sym, ◌∙◌}
use Prim.Native.Nat.{ℕ, ◌<◌}
use mathlib.Core.List.{List, [], ◌∷◌}
use Rattle.layout.proofs.Passed.{passed}
use Rattle.rooms.specs.File.{Board, board}
use lib.ListN.{length, get_or}
use Rattle.rooms.specs.Calls.{present}
use Rattle.layout.proofs.Outcomes.{outcome, outcome-as}
use Rattle.room_calls.proofs.Opening.{found}
use Rattle.room_calls.proofs.Calling.{change-closed, change-denied, change-asked, positive, missing, given}
use native.Mathlib.Omega.{arith}
use Rattle.room_calls.proofs.replace_board.Goals as goal

pub returns-then-t-eq0 : goal.returns-then-t-eq0
returns-then-t-eq0 c = let a = c.args in let bytes : (i : ℕ) → get_or a.file.now i 0 < 256 = λ i. (c.type_inv.file i).fits in let new : List Board = board a.board a.format a.body.now ∷ [] in let w = found a.form a.edition a.file.now (length a.out.now) _ a.board (sym c.find_board.ensures ∙ c.in_ok-t.was) in rw c.from.ensures (outcome (change-denied w present new a.out.now refl (missing w.stored bytes (omega (arith, c.if-t-eq0.true))).0))

pub put_board-requires : goal.put_board-requires
put_board-requires c = let a = c.args in let bytes : (i : ℕ) → get_or a.file.now i 0 < 256 = λ i. (c.type_inv.file i).fits in let new : List Board = board a.board a.format a.body.now ∷ [] in let w = found a.form a.edition a.file.now (length a.out.now) _ a.board (sym c.find_board.ensures ∙ c.in_ok-t.was) in (w.stored, w.lent_short)

pub returns-in_err-t : goal.returns-in_err-t
returns-in_err-t c = let a = c.args in rw (passed c.from_residual.result c.from_residual.ensures.1) (outcome (change-closed a.form a.edition a.file.now a.board present (board a.board a.format a.body.now ∷ []) a.out.now _ (sym c.find_board.ensures ∙ c.in_err-t.was)))

pub returns : goal.returns
returns c = let a = c.args in let bytes : (i : ℕ) → get_or a.file.now i 0 < 256 = λ i. (c.type_inv.file i).fits in let new : List Board = board a.board a.format a.body.now ∷ [] in let w = found a.form a.edition a.file.now (length a.out.now) _ a.board (sym c.find_board.ensures ∙ c.in_ok-t.was) in outcome-as (c.put_board.ensures.value, c.put_board.ensures.out_after) (change-asked w present new a.out.now refl (given w.stored bytes (positive _ c.if-t-eq0.false)).present_is)
