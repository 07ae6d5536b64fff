-- `hull::points::d2_at` meets its contract. Assumes nothing.
use Rattle.hull.specs.Hull.{d2_at}
use Rattle.hull.proofs.points.d2_at.Goals as goal

pub returns : goal.returns
unfolding d2_at
returns c = cc
