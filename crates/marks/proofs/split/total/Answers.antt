-- `total` sums the window. Invariant: the sum of the first i numbers, i at least 1. Assumes nothing.
use native.Mathlib.Omega.{arith}
use Rattle.marks.proofs.Splits.{total_first, total-turn}
use Rattle.marks.proofs.split.total.Goals as goal

pub loop-i-init : goal.loop-i-init
loop-i-init c = total_first _

pub loop-i-preserved : goal.loop-i-preserved
loop-i-preserved c = let at = c.loop-i in total-turn _ at.i at.sum (omega arith) at.invariant
