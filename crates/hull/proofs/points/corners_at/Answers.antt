-- `hull::points::corners_at` meets its contract. Assumes nothing.
use Rattle.hull.specs.Points.{points_at}
use Rattle.hull.specs.Quad.{values_of}
use Rattle.hull.proofs.points.corners_at.Goals as goal

pub returns : goal.returns
unfolding values_of points_at
returns c = cc
