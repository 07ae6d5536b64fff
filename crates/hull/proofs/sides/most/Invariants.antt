-- `hull::sides::most` meets its contract. The loop's invariant: what is kept is a point, and the fold over the points from i on gives the
-- farthest. Assumes nothing.
use mathlib.Core.Path.{◌≡◌}
use Prim.Native.Nat.{◌-◌, ◌<◌}
use Rattle.laws.specs.Lists.{range}
use Rattle.ieee.specs.Constants.{0f}
use Rattle.whole.specs.Walk.{keep}
use Rattle.hull.specs.Hull.{cross_at}
use Rattle.hull.specs.Inner.{keeps}
use Rattle.hull.proofs.sides.most.Given as goal

abbrev pub invariant-loop-i : goal.invariant-loop-i
invariant-loop-i l =
    (l.k.at < l.n)
    × (keep (keeps l.under) (cross_at l.p l.a l.b) l.k.at l.k.val (range l.i (l.n - l.i)) ≡ keep (keeps l.under) (cross_at l.p l.a l.b) l.a 0f (range 0 l.n))
