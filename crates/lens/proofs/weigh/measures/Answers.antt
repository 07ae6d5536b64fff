-- `lens::weigh::measures` meets its contract, in each case of the four measures. Assumes nothing.
use Rattle.lens.specs.Estimate.{measures_of}
use Rattle.lens.proofs.weigh.measures.Goals as goal

pub returns-in_err-fa : goal.returns-in_err-fa
unfolding measures_of
returns-in_err-fa c = simp (c.from_residual.ensures, c.in_err-fa.was)

pub returns-in_err-fb : goal.returns-in_err-fb
unfolding measures_of
returns-in_err-fb c = simp (c.from_residual-in_err-fb.ensures, c.in_ok-fa.was, c.in_err-fb.was)

pub returns-in_err-fc : goal.returns-in_err-fc
unfolding measures_of
returns-in_err-fc c = simp (c.from_residual-in_err-fc.ensures, c.in_ok-fa.was, c.in_ok-fb.was, c.in_err-fc.was)

pub returns-in_err-fd : goal.returns-in_err-fd
unfolding measures_of
returns-in_err-fd c = simp (c.from_residual-in_err-fd.ensures, c.in_ok-fa.was, c.in_ok-fb.was, c.in_ok-fc.was, c.in_err-fd.was)

pub returns : goal.returns
unfolding measures_of
returns c = simp (c.in_ok-fa.was, c.in_ok-fb.was, c.in_ok-fc.was, c.in_ok-fd.was)
