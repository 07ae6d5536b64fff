-- `fit::edges::edges_at` meets its contract: four crossings, four tests, one quad. Assumes nothing.
use Rattle.fit.proofs.edges.edges_at.Goals as goal

pub returns : goal.returns
returns c =
    simp (
      c.corners_of.ensures,
      c.keep_corner-d.ensures,
      c.intersect-4.ensures,
      c.keep_corner-c.ensures,
      c.intersect-3.ensures,
      c.keep_corner-b.ensures,
      c.intersect-2.ensures,
      c.keep_corner-a.ensures,
      c.intersect.ensures,
      c.limit_of-limit.ensures,
    )
