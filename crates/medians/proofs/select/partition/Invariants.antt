-- `medians::select::partition` meets its contract.
-- Invariant: the values are the same, nothing before i is above the pivot and nothing from e on below it. Measure: e - i. Assumes nothing.
use Prim.Native.Nat.{◌-◌}
use Rattle.medians.specs.Median.{SameValues}
use Rattle.medians.specs.Inner.{Parting}
use Rattle.medians.proofs.select.partition.Given as goal

abbrev pub invariant-loop-i : goal.invariant-loop-i
invariant-loop-i l = SameValues l.initial.v l.v × Parting l.v l.p l.i l.e

abbrev pub decreases-loop-i : goal.decreases-loop-i
decreases-loop-i l = l.e - l.i
