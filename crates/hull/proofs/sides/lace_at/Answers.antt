-- `hull::sides::lace_at` meets its contract. Assumes nothing.
use Rattle.hull.specs.Quad.{lace_at}
use Rattle.hull.proofs.sides.lace_at.Goals as goal

pub returns : goal.returns
unfolding lace_at
returns c = cc
