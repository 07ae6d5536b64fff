-- `doubled::coordinates::x_at` meets its contract. Assumes nothing.
use native.Mathlib.Omega.{arith}
use mathlib.Core.Path.{refl}
use Prim.Native.Nat.{◌*◌}
use Rattle.doubled.proofs.coordinates.x_at.Goals as goal

pub returns : goal.returns
returns c = (refl, c.requires.bounded (2 * c.args.i) (omega arith))
