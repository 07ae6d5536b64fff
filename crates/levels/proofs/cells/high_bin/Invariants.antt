-- acc is the count of the k topmost bins, and no running count before exceeds cut. Assumes nothing.
use mathlib.Core.Path.{◌≡◌}
use Prim.Native.Nat.{◌*◌, ◌+◌, ◌<◌, ◌≤◌, ℕ}
use Rattle.laws.specs.Fold.{sum_to}
use Rattle.laws.specs.Plane.{value_at}
use Rattle.levels.specs.Level.{from_top}
use Rattle.levels.proofs.cells.high_bin.Given as goal

abbrev pub invariant-loop-k : goal.invariant-loop-k
invariant-loop-k l =
    (l.acc ≤ 256 * l.k) × (l.acc ≡ sum_to l.k (from_top (value_at l.bins))) × ((i : ℕ) → i < l.k → sum_to (i + 1) (from_top (value_at l.bins)) ≤ l.cut)
