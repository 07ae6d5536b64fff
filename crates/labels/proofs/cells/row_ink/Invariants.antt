-- n counts the first i bytes of the row. Assumes nothing.
use mathlib.Core.Path.{◌≡◌}
use Rattle.labels.specs.Inner.{row_below}
use Rattle.laws.specs.Fold.{sum_to}
use Rattle.labels.proofs.cells.row_ink.Given as goal

abbrev pub invariant-loop-v : goal.invariant-loop-v
invariant-loop-v l = l.n ≡ sum_to l.v-index (row_below l.row l.t)
