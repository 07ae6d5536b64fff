-- `medians::select::up` meets its contract.
-- Invariant: all from the start up to i are below p, and some place from i on is not. Measure: places left. Assumes nothing.
use Rattle.medians.specs.Inner.{Stop}
use Rattle.math.specs.Lists.{number_at}
use lib.Ieee.{lt}
use lib.ListN.{length}
use Prim.Native.Nat.{ℕ, ◌≤◌, ◌<◌, ◌-◌}
use mathlib.Core.Bool.{true}
use mathlib.Core.Path.{◌≡◌}
use Rattle.medians.proofs.select.up.Given as goal

abbrev pub invariant-loop-i : goal.invariant-loop-i
invariant-loop-i l = (l.from ≤ l.i) × Stop l.v l.i l.p × ((x : ℕ) → l.from ≤ x → x < l.i → lt (number_at l.v x) l.p ≡ true)

abbrev pub decreases-loop-i : goal.decreases-loop-i
decreases-loop-i l = length l.v - l.i
