-- What hull and quad of whole points are, for every list of points, and what they do under every move. Statements only. Assumes nothing.
use Rattle.std.specs.Prelude.{List, map, ℕ}
use Rattle.laws.specs.Move.{Move}
use Rattle.whole.specs.Points.{Pt, Rot, Clockwise}
use Rattle.whole.specs.Hull.{hull}
use Rattle.whole.specs.IsHull.{IsHull}
use Rattle.whole.specs.Quad.{quad, Far, OneTop}
use Rattle.whole.specs.Moves.{moved_point, moved_round, Same}

-- Two lists of points, the second with the moved points of the first, in whatever order and however often: the second's hull is the
-- first's, moved, clockwise from its own start; and the quad is the first's, moved, clockwise from some corner, where one pair of vertices
-- is farthest and at most one vertex on each side of it
pub record OutlineMoved (m : Move) (w h : ℕ) (P Q : List Pt) : Type 0 where
  pub hulls : Rot (moved_round m w h (hull P)) (hull Q)
  pub quads : (a b : Pt) → Far (hull P) a b → OneTop (hull P) a b → OneTop (hull P) b a
      → Rot (moved_round m w h (quad (hull P))) (quad (hull Q)) × Clockwise (quad (hull Q))

unfoldable pub OutlinesMoved : Type 0
OutlinesMoved = (m : Move) (w h : ℕ) (P Q : List Pt) → Same (map (moved_point m w h) P) Q → OutlineMoved m w h P Q

-- The walk gives the hull of its points
unfoldable pub HullsAre : Type 0
HullsAre = (P : List Pt) → IsHull P (hull P)

-- The quad of every list of points, be it a hull or not, runs clockwise (x right, y down); none is the empty list, which has no corners
unfoldable pub QuadsClockwise : Type 0
QuadsClockwise = (H : List Pt) → Clockwise (quad H)
