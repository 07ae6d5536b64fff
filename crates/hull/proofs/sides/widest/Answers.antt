-- `hull::sides::widest` meets its contract. The loop's invariant: the pair is one of points, and the fold over the pairs of i with j or
-- later gives the farthest. Assumes nothing.
use mathlib.Core.Path.{refl, ◌∙◌}
use native.Mathlib.Omega.{arith}
use Rattle.hull.specs.Points.{many}
use Rattle.hull.proofs.Pairs.{pair_turn, pair_end}
use Rattle.hull.proofs.sides.widest.Goals as goal

pub loop-j-init : goal.loop-j-init
loop-j-init c = (omega arith, omega arith, omega arith, refl)

pub loop-j-preserved : goal.loop-j-preserved
loop-j-preserved c =
    let a = c.args in let q = c.loop-j in let r = c.wider-pair in (
      r.ensures.1,
      r.ensures.2,
      omega arith,
      pair_turn a.p.now (many a.p.now) a.i q.j q.pair.a q.pair.b r.result.a r.result.b q.pair.far
          r.result.far (omega arith) r.ensures.0 ∙ q.invariant.3,
    )

pub returns : goal.returns
returns c =
    let a = c.args in let q = c.loop-j in (
      pair_end a.p.now (many a.p.now) a.i q.j q.pair.a q.pair.b q.pair.far (omega arith)
          ∙ q.invariant.3,
      q.invariant.0,
      q.invariant.1,
    )
