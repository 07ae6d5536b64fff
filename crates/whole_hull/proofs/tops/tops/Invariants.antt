-- `whole_hull::tops::tops` meets its contract. The loop's invariant: both lists have the least y of the first i points, seen from either end, and
-- their x are in the span. Assumes nothing.
use mathlib.Core.Path.{◌≡◌}
use mathlib.Core.Bool.{true, false}
use lib.ListN.{length}
use Rattle.whole_hull.specs.Inner.{Tops, Spans}
use Rattle.whole_hull.proofs.tops.tops.Given as goal

abbrev pub invariant-loop-i : goal.invariant-loop-i
invariant-loop-i l =
    (length l.a ≡ length l.initial.a) × (length l.b ≡ length l.initial.b) × Tops false l.p l.i l.a × Tops true l.p l.i l.b × Spans l.p l.i l.s.left l.s.right
