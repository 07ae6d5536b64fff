-- `hull::sides::widest` meets its contract. The loop's invariant: the pair is one of points, and the fold over the pairs of i with j or
-- later gives the farthest. Assumes nothing.
use mathlib.Core.List.{map}
use mathlib.Core.Path.{◌≡◌}
use Prim.Native.Nat.{◌-◌, ◌<◌, ◌+◌}
use lib.Ieee.{lt}
use Rattle.laws.specs.Lists.{range}
use Rattle.whole.specs.Walk.{keep, with-i}
use Rattle.hull.specs.Inner.{apart}
use Rattle.hull.proofs.sides.widest.Given as goal

abbrev pub invariant-loop-j : goal.invariant-loop-j
invariant-loop-j l =
    (l.pair.a < l.n) × (l.pair.b < l.n) × (l.i < l.n)
    × (keep lt (apart l.p) (l.pair.a, l.pair.b) l.pair.far (map (with-i l.i) (range l.j (l.n - l.j)))
    ≡ keep lt (apart l.p) (l.initial.pair.a, l.initial.pair.b) l.initial.pair.far (map (with-i l.i) (range (l.i + 1) (l.n - (l.i + 1)))))
