-- `hull::sides::area_at` meets its contract. Assumes nothing.
use Rattle.hull.specs.Quad.{area_at}
use Rattle.hull.proofs.sides.area_at.Goals as goal

pub returns : goal.returns
unfolding area_at
returns c = cc
