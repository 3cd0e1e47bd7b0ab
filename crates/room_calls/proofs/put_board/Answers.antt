-- `room_calls::put_board` meets its contract: the stored bodies, the new one, and the file.
-- Assumes nothing.
use mathlib.Core.Path.{sym, ◌∙◌}
use Prim.Native.Nat.{ℕ, ◌<◌}
use mathlib.Core.List.{List, [], ◌∷◌}
use Rattle.layout.proofs.Passed.{passed}
use Rattle.rooms.specs.File.{Board, board}
use lib.ListN.{get_or}
use Rattle.layout.proofs.Outcomes.{outcome, outcome-as}
use Rattle.room_calls.proofs.Calling.{lies, change-stored, change-new, change-put, new-fine, new-faulty, new_row, new-body}
use borrow.Author.Rules.{rules}
use Rattle.room_calls.proofs.put_board.Goals as goal

pub put_file-requires : goal.put_file-requires
put_file-requires c = (lies c.requires.0 (λ i. (c.type_inv.file i).fits), c.requires.0.short, search rules, c.requires.1)

pub returns-in_err-judge_bodies : goal.returns-in_err-judge_bodies
returns-in_err-judge_bodies c = let a = c.args in let bytes : (i : ℕ) → get_or a.file.now i 0 < 256 = λ i. (c.type_inv.file i).fits in let new : List Board = board a.number a.format a.body.now ∷ [] in rw (passed c.from_residual.result c.from_residual.ensures.1) (let w = outcome (change-stored c.requires.0 bytes a.edition new a.out.now (sym c.in_err-judge_bodies.was ∙ c.judge_bodies.ensures)) in record { value = w.0; out_after = w.1 })

pub returns-in_err-judge_body : goal.returns-in_err-judge_body
returns-in_err-judge_body c = let a = c.args in let bytes : (i : ℕ) → get_or a.file.now i 0 < 256 = λ i. (c.type_inv.file i).fits in let new : List Board = board a.number a.format a.body.now ∷ [] in rw (passed c.from_residual-in_err-judge_body.result c.from_residual-in_err-judge_body.ensures.1) (let w = outcome (change-new c.requires.0 bytes a.edition new a.out.now (sym c.in_ok-judge_bodies.was ∙ c.judge_bodies.ensures) (new-faulty a.edition a.number a.format a.body.now (sym c.in_err-judge_body.was ∙ c.judge_body.ensures))) in record { value = w.0; out_after = w.1 })

pub returns : goal.returns
returns c = let a = c.args in let bytes : (i : ℕ) → get_or a.file.now i 0 < 256 = λ i. (c.type_inv.file i).fits in let new : List Board = board a.number a.format a.body.now ∷ [] in (let w = outcome-as (c.put_file.ensures.value, c.put_file.ensures.out_after) (change-put c.requires.0 bytes a.edition new a.out.now (sym c.in_ok-judge_bodies.was ∙ c.judge_bodies.ensures) (new-fine a.edition a.number a.format a.body.now (sym c.in_ok-judge_body.was ∙ c.judge_body.ensures)) (new_row a.edition a.number a.format a.body.now ∙ sym c.row_bytes-row.ensures) (new-body a.edition a.number a.format a.body.now)) in record { value = w.0; out_after = w.1 })
