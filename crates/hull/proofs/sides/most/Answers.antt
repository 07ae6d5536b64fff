-- `hull::sides::most` meets its contract. The loop's invariant: what is kept is a point, and the fold over the points from i on gives the
-- farthest. Assumes nothing.
use mathlib.Core.Path.{◌∙◌}
use native.Mathlib.Omega.{arith}
use Rattle.ieee.specs.Constants.{0f}
use Rattle.hull.specs.Hull.{cross_at}
use Rattle.hull.specs.Points.{many}
use Rattle.hull.specs.Inner.{keeps}
use Rattle.hull.proofs.Pairs.{keep-begin, keep-turn, keep-end}
use Rattle.hull.proofs.sides.most.Goals as goal

pub loop-i-init : goal.loop-i-init
loop-i-init c =
    let a = c.args in
    (c.requires.0, keep-begin (keeps a.under) (cross_at a.p.now a.a a.b) a.a (many a.p.now) 0f)

pub loop-i-preserved : goal.loop-i-preserved
loop-i-preserved c =
    let a = c.args in
    let q = c.loop-i in
    let r = c.farther-k in (
      r.ensures.1,
      keep-turn (keeps a.under) (cross_at a.p.now a.a a.b) (many a.p.now) q.i q.k.at r.result.at q.k.val
          r.result.val (omega arith) r.ensures.0 ∙ q.invariant.1,
    )

pub returns : goal.returns
returns c =
    let a = c.args in
    let q = c.loop-i in (
      keep-end (keeps a.under) (cross_at a.p.now a.a a.b) (many a.p.now) q.i q.k.at q.k.val (omega arith)
          ∙ q.invariant.1,
      q.invariant.0,
    )
