-- `room_calls::judge_body` meets its contract: a place counts from so many bytes before the body.
-- Assumes nothing.
use mathlib.Core.Path.{ap, ◌∙◌}
use Rattle.std.specs.Prelude.{Err}
use Rattle.room_calls.proofs.Judging.{body-fine, body-faulty, body-place}
use native.Mathlib.Omega.{arith}
use Rattle.room_calls.proofs.judge_body.Goals as goal

pub overflow_add-p : goal.overflow_add-p
overflow_add-p c = let a = c.args in omega (arith, body-place a.format a.edition a.body.now a.p c.check_image.ensures c.in-Err.is, c.requires)

pub returns-in-Ok : goal.returns-in-Ok
returns-in-Ok c = let a = c.args in body-fine a.format a.edition a.body.now a.p c.check_image.ensures c.in-Ok.is

pub returns-in-Err : goal.returns-in-Err
returns-in-Err c = let a = c.args in ap Err c.at.ensures ∙ body-faulty a.format a.edition a.body.now a.p c.check_image.ensures c.in-Err.is
