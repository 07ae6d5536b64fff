-- `transform::no_pixel` meets its contract: 0 / 0 is a NaN. Assumes nothing.
use Rattle.std.proofs.Common.{refl}
use lib.Ieee.{div, of_bits}
use Rattle.transform.proofs.no_pixel.Goals as goal

pub returns : goal.returns
unfolding div of_bits
returns c = refl
