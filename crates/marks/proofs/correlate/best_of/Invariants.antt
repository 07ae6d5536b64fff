-- `best_of` walks the counts. Invariant: the first greatest of the first k. Assumes nothing.
use mathlib.Core.Path.{◌≡◌}
use Prim.Native.Nat.{◌<◌, ◌-◌}
use Rattle.marks.specs.Correlate.{best_to}
use Rattle.marks.proofs.correlate.best_of.Given as goal

abbrev pub invariant-loop-k : goal.invariant-loop-k
invariant-loop-k l = (l.b < 8) × (l.b ≡ best_to l.counts (l.k - 1))
