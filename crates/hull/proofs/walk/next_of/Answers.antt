-- `hull::walk::next_of` meets its contract. The loop's invariant: next is a point, and the search over the points from i on gives the next
-- vertex. Assumes nothing.
use mathlib.Core.Path.{◌∙◌}
use Prim.Native.Nat.{◌+◌}
use native.Mathlib.Nat.{mod-lt}
use native.Mathlib.Omega.{arith}
use Rattle.hull.specs.Hull.{hull_tests}
use Rattle.hull.specs.Points.{many}
use Rattle.hull.proofs.Walks.{best_with-begin, best_with-turn, best_with-end}
use Rattle.hull.proofs.walk.next_of.Goals as goal

pub loop-i-init : goal.loop-i-init
loop-i-init c =
    let p = c.args.p.now in
    (mod-lt (c.args.cur + 1) (omega arith), best_with-begin (hull_tests p) (many p) c.args.cur)

pub loop-i-preserved : goal.loop-i-preserved
loop-i-preserved c =
    let p = c.args.p.now in
    let q = c.loop-i in (
      c.taken-next.ensures.1,
      best_with-turn (hull_tests p) (many p) c.args.cur q.i q.next c.taken-next.result (omega arith) c.taken-next.ensures.0 ∙ q.invariant.1,
    )

pub returns : goal.returns
returns c =
    let p = c.args.p.now in
    let q = c.loop-i in
    (best_with-end (hull_tests p) (many p) c.args.cur q.i q.next (omega arith) ∙ q.invariant.1, q.invariant.0)
