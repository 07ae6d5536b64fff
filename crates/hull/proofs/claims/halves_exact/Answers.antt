-- `hull::claims::halves_exact`: the theorems are `hull-exact` and `quad-exact`, and those of the whole hull and quad.
-- Assumes nothing.
use mathlib.Core.Path.{sym, subst}
use Rattle.whole.specs.Points.{Clockwise}
use Rattle.whole.specs.IsHull.{IsHull}
use Rattle.whole.proofs.IsHull.{hull-is}
use Rattle.whole.proofs.Clockwise.{quad-clockwise}
use Rattle.hull.specs.Points.{pts_of}
use Rattle.hull.proofs.Exact.{hull-exact}
use Rattle.hull.proofs.QuadExact.{quad-exact}
use Rattle.hull.proofs.claims.halves_exact.Goals as goal

pub returns : goal.returns
returns c =
    record {
      hulls = hull-exact;
      quads = quad-exact;
      exact = λ L small. subst (IsHull (pts_of L)) (sym (hull-exact L small)) (hull-is (pts_of L));
      clockwise = λ L small. subst Clockwise (sym (quad-exact L small)) (quad-clockwise (pts_of L));
    }
