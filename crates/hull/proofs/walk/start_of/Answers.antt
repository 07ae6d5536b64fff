-- `hull::walk::start_of` meets its contract. The loop's invariant: best is a point, and the search over the points from i on gives the
-- first vertex. Assumes nothing.
use mathlib.Core.Path.{◌∙◌}
use native.Mathlib.Omega.{arith}
use Rattle.hull.specs.Hull.{hull_tests}
use Rattle.hull.specs.Points.{many}
use Rattle.hull.specs.Inner.{start_of}
use Rattle.hull.proofs.Walks.{lowest_with-begin, lowest_with-turn, lowest_with-end}
use Rattle.hull.proofs.walk.start_of.Goals as goal

pub loop-i-init : goal.loop-i-init
unfolding start_of
loop-i-init c =
    let p = c.args.p.now in
    (c.requires, lowest_with-begin (hull_tests p) (many p))

pub loop-i-preserved : goal.loop-i-preserved
loop-i-preserved c =
    let p = c.args.p.now in
    let q = c.loop-i in (
      c.first_of-best.ensures.1,
      lowest_with-turn (hull_tests p) (many p) q.i q.best c.first_of-best.result (omega arith) c.first_of-best.ensures.0 ∙ q.invariant.1,
    )

pub returns : goal.returns
returns c =
    let p = c.args.p.now in
    let q = c.loop-i in
    (lowest_with-end (hull_tests p) (many p) q.i q.best (omega arith) ∙ q.invariant.1, q.invariant.0)
