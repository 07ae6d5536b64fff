-- `total` sums the window. Invariant: the sum of the first i numbers, i at least 1. Assumes nothing.
use mathlib.Core.Path.{◌≡◌}
use Prim.Native.Nat.{◌-◌}
use Rattle.marks.specs.Split.{total_to}
use Rattle.marks.proofs.split.total.Given as goal

abbrev pub invariant-loop-i : goal.invariant-loop-i
invariant-loop-i l = l.sum ≡ total_to l.w (l.i - 1)
