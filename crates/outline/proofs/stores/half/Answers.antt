-- `outline::stores::half` meets its contract. A product with 0.5 is exact. Assumes nothing.
use native.Mathlib.Omega.{arith}
use lib.Dec.{le→leb}
use lib.Ieee.{in_float}
use Rattle.outline.proofs.Writes.{half_is}
use Rattle.outline.proofs.stores.half.Goals as goal

pub int_to_float-result : goal.int_to_float-result
unfolding in_float
int_to_float-result c = le→leb c.args.n 16777216 (omega arith)

pub returns : goal.returns
returns c = half_is c.args.n (omega arith)
