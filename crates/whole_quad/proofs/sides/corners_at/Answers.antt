-- `whole_quad::sides::corners_at` meets its contract. Assumes nothing.
use Rattle.whole_quad.specs.Door.{quad_of_pairs}
use Rattle.whole_quad.proofs.sides.corners_at.Goals as goal

pub returns : goal.returns
unfolding quad_of_pairs
returns c = cc
