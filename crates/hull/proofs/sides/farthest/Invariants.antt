-- `hull::sides::farthest` meets its contract. The loop's invariant: best is a pair of points, and the fold over the pairs from i on gives
-- the farthest. Assumes nothing.
use mathlib.Core.Path.{◌≡◌}
use Prim.Native.Nat.{◌-◌, ◌<◌}
use lib.Ieee.{lt}
use Rattle.whole.specs.Walk.{keep, index_pairs}
use Rattle.hull.specs.Quad.{minus_one}
use Rattle.hull.specs.Inner.{apart}
use Rattle.hull.proofs.sides.farthest.Given as goal

abbrev pub invariant-loop-i : goal.invariant-loop-i
invariant-loop-i l =
    (l.best.a < l.n) × (l.best.b < l.n)
    × (keep lt (apart l.p) (l.best.a, l.best.b) l.best.far (index_pairs l.i (l.n - l.i)) ≡ keep lt (apart l.p) (0, 0) minus_one (index_pairs 0 l.n))
