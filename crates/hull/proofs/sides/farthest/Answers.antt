-- `hull::sides::farthest` meets its contract. The loop's invariant: best is a pair of points, and the fold over the pairs from i on gives
-- the farthest. Assumes nothing.
use mathlib.Core.Path.{◌∙◌}
use native.Mathlib.Omega.{arith}
use Rattle.hull.specs.Points.{many}
use Rattle.hull.specs.Quad.{minus_one}
use Rattle.hull.proofs.Pairs.{pairs-begin, pairs-turn, pairs_end, minus_one_lem}
use Rattle.hull.proofs.sides.farthest.Goals as goal

pub loop-i-init : goal.loop-i-init
loop-i-init c =
    let p = c.args.p.now in
    (c.requires, c.requires, rw minus_one_lem (pairs-begin p (many p) 0 0 minus_one))

pub loop-i-preserved : goal.loop-i-preserved
loop-i-preserved c =
    let a = c.args in let q = c.loop-i in let r = c.widest-best in (
      r.ensures.1,
      r.ensures.2,
      pairs-turn a.p.now (many a.p.now) q.i q.best.a q.best.b r.result.a r.result.b q.best.far
          r.result.far (omega arith) r.ensures.0 ∙ q.invariant.2,
    )

pub returns : goal.returns
returns c =
    let a = c.args in let q = c.loop-i in (
      pairs_end a.p.now (many a.p.now) q.i q.best.a q.best.b q.best.far (omega arith)
          ∙ q.invariant.2,
      q.invariant.0,
      q.invariant.1,
    )
