-- `lens::estimate::step_by` meets its contract, in both cases of the measures. Assumes nothing.
use Rattle.lens.specs.Estimate.{step_by}
use Rattle.lens.proofs.estimate.step_by.Goals as goal

pub returns-in_err-t : goal.returns-in_err-t
unfolding step_by
returns-in_err-t c = simp (c.from_residual.ensures, c.in_err-t.was)

pub returns : goal.returns
unfolding step_by
returns c = simp (c.in_ok-t.was, c.step.ensures)
