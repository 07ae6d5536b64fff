-- `medians::lists::distance` meets its contract: a difference and its magnitude. Assumes nothing.
use Rattle.medians.specs.Median.{away}
use Rattle.medians.proofs.lists.distance.Goals as goal

pub returns : goal.returns
unfolding away
returns c = c.abs32.ensures
