-- `moved` counts. Invariant: at most as many are counted as there were, and where none is these are on the same sides. Assumes nothing.
use mathlib.Core.Path.{◌≡◌}
use Prim.Native.Nat.{◌≤◌}
use Rattle.marks.specs.Split.{SameSides}
use Rattle.marks.proofs.split.moved.Given as goal

abbrev pub invariant-loop-x : goal.invariant-loop-x
invariant-loop-x l = (l.n ≤ l.x-index) × (l.n ≡ 0 → SameSides l.w l.a l.b l.x-index)
