-- `fit::corners::refined_at` meets its contract: four crossings, four tests, one quad. Assumes nothing.
use Rattle.fit.proofs.corners.refined_at.Goals as goal

pub returns : goal.returns
returns c =
    simp (
      c.corners_of.ensures,
      c.near_corner-d.ensures,
      c.intersect-4.ensures,
      c.near_corner-c.ensures,
      c.intersect-3.ensures,
      c.near_corner-b.ensures,
      c.intersect-2.ensures,
      c.near_corner-a.ensures,
      c.intersect.ensures,
    )
