-- `medians::select::down` meets its contract.
-- Invariant: all from e up to the start are above p, and some place before e is not. Measure: e. Assumes nothing.
use Rattle.medians.specs.Inner.{Floor}
use Rattle.math.specs.Lists.{number_at}
use lib.Ieee.{lt}
use Prim.Native.Nat.{ℕ, ◌≤◌, ◌<◌}
use mathlib.Core.Bool.{true}
use mathlib.Core.Path.{◌≡◌}
use Rattle.medians.proofs.select.down.Given as goal

abbrev pub invariant-loop-e : goal.invariant-loop-e
invariant-loop-e l = (l.e ≤ l.from) × Floor l.v l.e l.p × ((x : ℕ) → l.e ≤ x → x < l.from → lt l.p (number_at l.v x) ≡ true)

abbrev pub decreases-loop-e : goal.decreases-loop-e
decreases-loop-e l = l.e
