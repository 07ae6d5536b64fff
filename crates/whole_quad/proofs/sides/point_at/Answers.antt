-- `whole_quad::sides::point_at` meets its contract. Assumes nothing.
use Rattle.whole_quad.proofs.sides.point_at.Goals as goal

pub returns : goal.returns
returns c = cc
