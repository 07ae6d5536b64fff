-- What hull and quad in whole numbers are, in the words of their request, for every list of points, of any length and with any coordinates;
-- and what they have to do with f32 numbers. Statements only. Assumes nothing.
use Rattle.std.specs.Prelude.{◌≡◌, List, ℕ}
use Rattle.whole.specs.Points.{Clockwise}
use Rattle.whole.specs.IsHull.{IsHull}
use Rattle.hull.specs.Points.{pts_of, numbers_of, floats_of, UpTo, Small}
use Rattle.hull.specs.Hull.{hull_points}
use Rattle.hull.specs.Quad.{quad_points}
use Rattle.doubled.specs.Outline.{hull_whole, quad_whole}
use Rattle.doubled.specs.Doubled.{twices}

pub record WholeOutlines : Type 0 where
  -- "All points lie on or inside the hull, its vertices are points, and no vertex lies on or inside the hull of the others. Their order is
  -- that of rule 18."
  pub hulls : (L : List (ℕ × ℕ)) → IsHull (pts_of L) (pts_of (hull_whole L))
  -- These words decide the answer: no other list of vertices has them.
  pub only : (L vs : List (ℕ × ℕ)) → IsHull (pts_of L) (pts_of vs) → vs ≡ hull_whole L
  -- A quad runs clockwise, of a hull as of any list; none is the empty list.
  pub quads : (L : List (ℕ × ℕ)) → Clockwise (pts_of (quad_whole L))

-- "For pictures up to 1,024 a side both ways give the same vertices and corners": doubled coordinates up to 2,048, by the definitions that
-- the contracts of the f32 entries cite.
pub record SameAsFloats : Type 0 where
  pub hulls : (L : List (ℕ × ℕ)) → Small L → hull_points L ≡ hull_whole L
  pub quads : (L : List (ℕ × ℕ)) → Small L → quad_points L ≡ quad_whole L

-- The f32 numbers of points in doubled coordinates, doubled, are these coordinates.
unfoldable pub DoubledIs : Type 0
DoubledIs = (L : List (ℕ × ℕ)) → UpTo 8192 L → twices (floats_of L) ≡ numbers_of L
