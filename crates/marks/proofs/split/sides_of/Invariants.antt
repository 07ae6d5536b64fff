-- `sides_of` folds the window. Invariant: the sides of the numbers so far. Assumes nothing.
use mathlib.Core.Path.{◌≡◌}
use Rattle.marks.specs.Split.{sides_to}
use Rattle.marks.proofs.split.sides_of.Given as goal

abbrev pub invariant-loop-x : goal.invariant-loop-x
invariant-loop-x l = l.s ≡ sides_to l.t l.w l.x-index
