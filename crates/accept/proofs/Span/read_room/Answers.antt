-- `accept::Span::read_room` meets its contract: a walk that stops does so in every pass, and the size of the filter decides no answer.
-- Assumes nothing.
use mathlib.Core.Path.{sym, ◌∙◌}
use Rattle.layout.proofs.Passed.{passed}
use Rattle.laws.specs.Passes.{walked}
use Rattle.accept.proofs.Taking.{stops-alike}
use Rattle.accept.proofs.Span.read_room.Goals as goal

pub returns-in_err-pass : goal.returns-in_err-pass
returns-in_err-pass c = let a = c.args.self in
    passed c.from_residual.result c.from_residual.ensures.1 ∙ stops-alike a.format a.edition a.start _ (walked a.format c.args.image.now a.start a.end) (sym c.walk_on.ensures ∙ c.in_err-pass.was)
