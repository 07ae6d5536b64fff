-- r is the fold of the first i numbers. Assumes nothing.
use mathlib.Core.Path.{◌≡◌}
use Rattle.laws.specs.Fold.{fold}
use Rattle.laws.specs.Plane.{value_at}
use Rattle.levels.specs.Inner.{pool_step, unit}
use Rattle.levels.proofs.pool.join_row.Given as goal

abbrev pub invariant-loop-v : goal.invariant-loop-v
invariant-loop-v l = l.r ≡ fold (pool_step l.most) (unit l.most) l.v-index (value_at l.row)
