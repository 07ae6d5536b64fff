-- `whole_hull::chain::chain` meets its contract. The loop's invariant: the stack is the chain of the places below e. Assumes nothing.
use mathlib.Core.Path.{◌≡◌}
use Prim.Native.Nat.{◌≤◌}
use lib.ListN.{length}
use Rattle.laws.specs.Lists.{stack_of}
use Rattle.laws.specs.Plane.{value_at}
use Rattle.whole_hull.specs.Inner.{Chain}
use Rattle.whole_hull.proofs.chain.chain.Given as goal

abbrev pub invariant-loop-e : goal.invariant-loop-e
invariant-loop-e l = (l.n ≤ l.e) × (length l.s ≡ 8193) × Chain (value_at l.a) l.e (stack_of l.s l.n)
