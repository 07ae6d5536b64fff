-- `lens::estimate::end` meets its contract, in each case of the pass and the test. Assumes nothing.
use Rattle.lens.specs.Estimate.{lens_end}
use Rattle.lens.proofs.estimate.end.Goals as goal

pub returns-in_default : goal.returns-in_default
unfolding lens_end
returns-in_default c = simp c.in_default.is

pub returns-then-abs32 : goal.returns-then-abs32
unfolding lens_end
returns-then-abs32 c = simp (c.in-Some.is, ← c.abs32.ensures, c.if-abs32.true)

pub returns : goal.returns
unfolding lens_end
returns c = simp (c.in-Some.is, ← c.abs32.ensures, c.if-abs32.false)
