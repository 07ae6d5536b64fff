-- `whole_quad::sides::most` meets its contract. The loop's invariant: what is kept are points, and the folds over the points from i on give
-- the farthest of either side. Assumes nothing.
use mathlib.Core.Path.{◌≡◌}
use Prim.Native.Nat.{◌-◌, ◌≤◌, ◌<◌}
use lib.Dec.{ltb}
use Rattle.laws.specs.Lists.{range}
use Rattle.whole.specs.Walk.{keep}
use Rattle.whole_quad.specs.Inner.{side_at, most_of}
use Rattle.whole_quad.proofs.sides.most.Given as goal

abbrev pub invariant-loop-i : goal.invariant-loop-i
invariant-loop-i l =
    (l.right.at < l.n) × (l.left.at < l.n) × (l.left.val ≤ 536870912)
    × (keep ltb (side_at l.p l.a l.b) l.right.at l.right.val (range l.i (l.n - l.i)) ≡ most_of l.p l.a l.b l.a)
    × (keep ltb (side_at l.p l.b l.a) l.left.at (536870912 - l.left.val) (range l.i (l.n - l.i)) ≡ most_of l.p l.b l.a l.a)
