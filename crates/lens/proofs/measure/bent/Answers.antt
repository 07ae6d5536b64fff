-- `lens::measure::bent` meets its contract, in both cases of the bow. Assumes nothing.
use Rattle.lens.specs.Measure.{bent_of}
use Rattle.lens.proofs.measure.bent.Goals as goal

pub returns-in_err-b : goal.returns-in_err-b
unfolding bent_of
returns-in_err-b c = simp (c.from_residual.ensures, c.in_err-b.was)

pub returns : goal.returns
unfolding bent_of
returns c = simp (c.in_ok-b.was, c.max32.ensures, c.abs32.ensures)
