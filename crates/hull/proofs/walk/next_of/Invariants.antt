-- `hull::walk::next_of` meets its contract. The loop's invariant: next is a point, and the search over the points from i on gives the next
-- vertex. Assumes nothing.
use mathlib.Core.Path.{◌≡◌}
use Prim.Native.Nat.{◌-◌, ◌<◌}
use Rattle.laws.specs.Lists.{range}
use Rattle.whole.specs.Walk.{best_with, next_with}
use Rattle.hull.specs.Hull.{hull_tests}
use Rattle.hull.proofs.walk.next_of.Given as goal

abbrev pub invariant-loop-i : goal.invariant-loop-i
invariant-loop-i l =
    (l.next < l.n) × (best_with (hull_tests l.p) l.cur l.next (range l.i (l.n - l.i)) ≡ next_with (hull_tests l.p) l.n l.cur)
