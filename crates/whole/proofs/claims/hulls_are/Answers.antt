-- `whole::claims::hulls_are` meets its contract, by `hull-is`. Assumes nothing.
use Rattle.whole.specs.Claims.{HullsAre}
use Rattle.whole.proofs.IsHull.{hull-is}
use Rattle.whole.proofs.claims.hulls_are.Goals as goal

pub returns : goal.returns
unfolding HullsAre
returns c = hull-is
