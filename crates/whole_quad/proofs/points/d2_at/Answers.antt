-- `whole_quad::points::d2_at` meets its contract. Assumes nothing.
use native.Mathlib.Omega.{arith}
use Rattle.whole_quad.specs.Inner.{d2_at}
use Rattle.whole_quad.proofs.points.d2_at.Goals as goal

pub returns : goal.returns
unfolding d2_at
returns c = (cc, omega arith)
