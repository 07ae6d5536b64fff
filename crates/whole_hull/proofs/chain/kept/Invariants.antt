-- `whole_hull::chain::kept` meets its contract. The loop's invariant (`Ready`): what the places that went were above lies on the right of
-- the way from the last that is left. The measure is how many are left. Assumes nothing.
use Prim.Native.Nat.{◌≤◌}
use lib.ListN.{length}
use Rattle.laws.specs.Lists.{stack_of}
use Rattle.laws.specs.Plane.{value_at}
use Rattle.whole_hull.specs.Inner.{ChainReady}
use Rattle.whole_hull.proofs.chain.kept.Given as goal

abbrev pub invariant-loop-m : goal.invariant-loop-m
invariant-loop-m l = (l.m ≤ l.n) × (l.n ≤ length l.s) × ChainReady (value_at l.a) l.e (stack_of l.s l.m)

abbrev pub decreases-loop-m : goal.decreases-loop-m
decreases-loop-m l = l.m
