-- `hull::walk::convex_hull` meets its contract. The loop's invariant (`Walked`): k vertices are stored, cur is the next one, and the rest of the
-- walk gives the rest of the hull. Assumes nothing.
use mathlib.Core.Path.{◌≡◌}
use Prim.Native.Nat.{◌<◌}
use lib.ListN.{length}
use Rattle.hull.proofs.Walks.{Walked}
use Rattle.hull.proofs.walk.convex_hull.Given as goal

abbrev pub invariant-loop-k : goal.invariant-loop-k
invariant-loop-k l =
    (l.cur < l.n) × (length l.out ≡ length l.initial.out) × Walked l.p l.start l.k l.cur l.initial.out l.out
