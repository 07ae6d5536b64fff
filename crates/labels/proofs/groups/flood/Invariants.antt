-- What is left on the stack is still to be looked at (Flow); the measure is the depth of the stack with the marks that are left. Assumes
-- nothing.
use Prim.Native.Nat.{◌+◌}
use Rattle.labels.specs.Inner.{marks}
use Rattle.labels.proofs.Loops.{Flow}
use Rattle.labels.proofs.groups.flood.Given as goal

abbrev pub invariant-loop-k : goal.invariant-loop-k
invariant-loop-k l = Flow l.w l.h l.v l.initial.labels l.initial.stack l.initial.k l.labels l.stack l.k

abbrev pub decreases-loop-k : goal.decreases-loop-k
decreases-loop-k l = l.k + marks l.labels
