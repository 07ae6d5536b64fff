-- `accept::runner_up` meets its contract. The greatest so far, followed over the places that are left, is the greatest of all. Assumes
-- nothing.
use mathlib.Core.Path.{◌≡◌}
use Prim.Native.Nat.{◌-◌}
use Rattle.ieee.specs.Constants.{0f}
use Rattle.accept.specs.Accept.{runner_on}
use Rattle.accept.proofs.runner_up.Given as goal

abbrev pub invariant-loop-k : goal.invariant-loop-k
invariant-loop-k l = runner_on l.list l.best (l.many - l.k) l.k l.top ≡ runner_on l.list l.best l.many 0 0f
