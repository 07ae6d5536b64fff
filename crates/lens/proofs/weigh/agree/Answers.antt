-- `lens::weigh::agree` meets its contract. Assumes nothing.
use Rattle.lens.specs.Estimate.{agrees}
use Rattle.lens.proofs.weigh.agree.Goals as goal

pub returns : goal.returns
unfolding agrees
returns c = simp c.abs32.ensures
