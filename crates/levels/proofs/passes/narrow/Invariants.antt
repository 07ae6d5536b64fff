-- The first k places are copied. Assumes nothing.
use mathlib.Core.Path.{◌≡◌}
use Rattle.laws.specs.Fold.{written}
use Rattle.laws.specs.Plane.{value_at}
use Rattle.levels.proofs.passes.narrow.Given as goal

abbrev pub invariant-loop-k : goal.invariant-loop-k
invariant-loop-k l = l.dst ≡ written l.k (value_at l.src) l.initial.dst
