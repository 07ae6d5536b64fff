-- What the hull and the quad of f32 points have to do with whole numbers. Statements only.
use Rattle.std.specs.Prelude.{◌≡◌, List, ℕ}
use Rattle.whole.specs.Points.{Clockwise}
use Rattle.whole.specs.Hull.{hull}
use Rattle.whole.specs.IsHull.{IsHull}
use Rattle.whole.specs.Quad.{quad}
use Rattle.hull.specs.Points.{pts_of, Small}
use Rattle.hull.specs.Hull.{hull_points}
use Rattle.hull.specs.Quad.{quad_points}

-- For every list of points k / 2 with k from 0 to 2,048 the f32 hull is the hull in whole numbers, and so is the quad: the exact hull,
-- clockwise, and corners clockwise.
pub record HalvesExact : Type 0 where
  pub hulls : (L : List (ℕ × ℕ)) → Small L → pts_of (hull_points L) ≡ hull (pts_of L)
  pub quads : (L : List (ℕ × ℕ)) → Small L → pts_of (quad_points L) ≡ quad (pts_of L)
  pub exact : (L : List (ℕ × ℕ)) → Small L → IsHull (pts_of L) (pts_of (hull_points L))
  pub clockwise : (L : List (ℕ × ℕ)) → Small L → Clockwise (pts_of (quad_points L))
