-- `lens::weigh::reach_of` meets its contract: four corners, each of them against the greatest so far. Assumes nothing.
use Rattle.lens.specs.Estimate.{corner_reach}
use Rattle.lens.proofs.weigh.reach_of.Goals as goal

pub returns : goal.returns
unfolding corner_reach
returns c = cc
