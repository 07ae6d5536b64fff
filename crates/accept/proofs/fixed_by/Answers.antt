-- `accept::fixed_by` meets its contract: without a transform, and with one. Assumes nothing.
use mathlib.Core.Path.{◌∙◌}
use Rattle.accept.proofs.BestScores.{fixed-none, fixed-some}
use Rattle.accept.proofs.fixed_by.Goals as goal

pub returns-in_err-t : goal.returns-in_err-t
returns-in_err-t c = let a = c.args in c.from_residual.ensures ∙ fixed-none a.s a.m c.in_err-t.was

pub returns : goal.returns
returns c = let a = c.args in fixed-some a.s a.m c.in_ok-t.was
