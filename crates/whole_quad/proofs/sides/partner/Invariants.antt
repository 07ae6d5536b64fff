-- `whole_quad::sides::partner` meets its contract. The loop's invariant: there is a point j, and the fold over the pairs of i with j and
-- later points finds what the fold over all later ones finds. The measure is the number of points left. Assumes nothing.
use mathlib.Core.List.{map}
use mathlib.Core.Path.{◌≡◌}
use Prim.Native.Nat.{◌-◌, ◌<◌}
use lib.Dec.{ltb}
use Rattle.laws.specs.Lists.{range}
use Rattle.whole.specs.Walk.{keep, with-i}
use Rattle.hull.specs.Points.{many}
use Rattle.whole_quad.specs.Inner.{apart, far_from}
use Rattle.whole_quad.proofs.sides.partner.Given as goal

abbrev pub invariant-loop-j : goal.invariant-loop-j
invariant-loop-j l =
    (l.i < many l.p) × (l.j < many l.p) × (keep ltb (apart l.p) (0, 0) 0 (map (with-i l.i) (range l.j (many l.p - l.j))) ≡ far_from l.p l.i)

abbrev pub decreases-loop-j : goal.decreases-loop-j
decreases-loop-j l = many l.p - l.j
