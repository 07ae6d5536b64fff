-- `hull::points::y_at` meets its contract. The number read is within the list, so that its default does not matter. Assumes nothing.
use Prim.Native.Nat.{◌*◌, ◌+◌}
use native.Mathlib.Omega.{arith}
use lib.Ieee.{nan}
use Rattle.ieee.specs.Constants.{0f}
use Rattle.laws.proofs.Stores.{get_d_any}
use Rattle.hull.proofs.points.y_at.Goals as goal

pub returns : goal.returns
returns c = let a = c.args in get_d_any a.p.now (2 * a.i + 1) nan 0f (omega arith)
