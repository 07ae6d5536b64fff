-- acc is the count of the bins below b, and no running count before exceeds cut. Assumes nothing.
use mathlib.Core.Path.{◌≡◌}
use Prim.Native.Nat.{◌*◌, ◌+◌, ◌<◌, ◌≤◌, ℕ}
use Rattle.laws.specs.Fold.{sum_to}
use Rattle.laws.specs.Plane.{value_at}
use Rattle.levels.proofs.cells.low_bin.Given as goal

abbrev pub invariant-loop-b : goal.invariant-loop-b
invariant-loop-b l =
    (l.acc ≤ 256 * l.b) × (l.acc ≡ sum_to l.b (value_at l.bins)) × ((i : ℕ) → i < l.b → sum_to (i + 1) (value_at l.bins) ≤ l.cut)
