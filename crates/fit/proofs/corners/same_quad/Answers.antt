-- `fit::corners::same_quad` meets its contract, at whichever corner the quads first differ. Assumes nothing.
use Rattle.fit.specs.Corner.{same_of}
use Rattle.fit.proofs.corners.same_quad.Goals as goal

pub returns-then-same_corner-3 : goal.returns-then-same_corner-3
unfolding same_of
returns-then-same_corner-3 c =
    simp (
      c.same_corner-then-same_corner-3.ensures,
      ← c.same_corner-then-same_corner-2.ensures,
      ← c.same_corner-then-same_corner.ensures,
      ← c.same_corner.ensures,
      c.if-same_corner-3.true,
      c.if-same_corner-2.true,
      c.if-same_corner.true,
    )

pub returns-else-same_corner-3 : goal.returns-else-same_corner-3
unfolding same_of
returns-else-same_corner-3 c =
    simp (
      ← c.same_corner-then-same_corner-2.ensures,
      ← c.same_corner-then-same_corner.ensures,
      ← c.same_corner.ensures,
      c.if-same_corner-3.false,
      c.if-same_corner-2.true,
      c.if-same_corner.true,
    )

pub returns-else-same_corner-2 : goal.returns-else-same_corner-2
unfolding same_of
returns-else-same_corner-2 c =
    simp (
      ← c.same_corner-then-same_corner.ensures,
      ← c.same_corner.ensures,
      c.if-same_corner-2.false,
      c.if-same_corner.true,
    )

pub returns-else-same_corner : goal.returns-else-same_corner
unfolding same_of
returns-else-same_corner c = simp (← c.same_corner.ensures, c.if-same_corner.false)
