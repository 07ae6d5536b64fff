-- `ieee::narrowing::nearest_div` meets its contract: by the remainder against half of the divisor. Assumes nothing.
use Rattle.std.proofs.Common.{le_antisymm, div-le_self, arith}
use native.Mathlib.Nat.{mod-le}
use Rattle.ieee.proofs.NarrowSteps.{closest-below, closest-above, closest-tie}
use Rattle.ieee.proofs.narrowing.nearest_div.Goals as goal

pub overflow_mul-r : goal.overflow_mul-r
overflow_mul-r c = omega (arith, mod-le c.args.m c.args.d)

pub overflow_add-result : goal.overflow_add-result
overflow_add-result c = omega (arith, div-le_self c.args.m c.args.d)

pub overflow_add-result-else-d-r : goal.overflow_add-result-else-d-r
overflow_add-result-else-d-r c = omega (arith, div-le_self c.args.m c.args.d)

pub returns-then-r-d : goal.returns-then-r-d
returns-then-r-d c = closest-below _ _ c.if-r-d.true

pub returns-then-d-r : goal.returns-then-d-r
returns-then-d-r c = closest-above _ _ c.if-d-r.true

pub returns-else-d-r : goal.returns-else-d-r
returns-else-d-r c = closest-tie _ _ (le_antisymm c.if-d-r.false c.if-r-d.false)
