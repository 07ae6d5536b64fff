-- `whole_quad::sides::reach` meets its contract. The loop's invariant: the fold over the pairs of i with j and later points, from one more
-- than what is kept, finds the reach. Assumes nothing.
use mathlib.Core.List.{map}
use mathlib.Core.Path.{◌≡◌}
use Prim.Native.Nat.{◌+◌, ◌-◌, ◌≤◌, ◌<◌}
use lib.Dec.{ltb}
use Rattle.laws.specs.Lists.{range}
use Rattle.whole.specs.Walk.{keep, with-i}
use Rattle.whole_quad.specs.Inner.{apart, reach_of}
use Rattle.whole_quad.proofs.sides.reach.Given as goal

abbrev pub invariant-loop-j : goal.invariant-loop-j
invariant-loop-j l =
    (l.i < l.n) × (l.far ≤ 134217728)
    × ((keep ltb (apart l.p) (0, 0) (l.far + 1) (map (with-i l.i) (range l.j (l.n - l.j)))).1 ≡ reach_of l.p l.i)
