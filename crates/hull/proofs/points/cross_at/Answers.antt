-- `hull::points::cross_at` meets its contract. Assumes nothing.
use Rattle.hull.specs.Hull.{cross_at}
use Rattle.hull.proofs.points.cross_at.Goals as goal

pub returns : goal.returns
unfolding cross_at
returns c = cc
