-- `hull::walk::start_of` meets its contract. The loop's invariant: best is a point, and the search over the points from i on gives the
-- first vertex. Assumes nothing.
use mathlib.Core.Path.{◌≡◌}
use Prim.Native.Nat.{◌-◌, ◌<◌}
use Rattle.laws.specs.Lists.{range}
use Rattle.whole.specs.Walk.{lowest_with}
use Rattle.hull.specs.Hull.{hull_tests}
use Rattle.hull.specs.Inner.{start_of}
use Rattle.hull.proofs.walk.start_of.Given as goal

abbrev pub invariant-loop-i : goal.invariant-loop-i
invariant-loop-i l = (l.best < l.n) × (lowest_with (hull_tests l.p) l.best (range l.i (l.n - l.i)) ≡ start_of l.p)
