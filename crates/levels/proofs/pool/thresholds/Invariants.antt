-- The first k places hold their thresholds. Assumes nothing.
use mathlib.Core.Path.{◌≡◌}
use Rattle.laws.specs.Fold.{written}
use Rattle.levels.specs.Inner.{pairwise}
use Rattle.levels.proofs.pool.thresholds.Given as goal

abbrev pub invariant-loop-k : goal.invariant-loop-k
invariant-loop-k l = l.grid ≡ written l.k (pairwise l.darks l.lights) l.initial.grid
