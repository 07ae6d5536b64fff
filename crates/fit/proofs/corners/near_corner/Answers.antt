-- `fit::corners::near_corner` meets its contract, in each case of the crossing and the test. Assumes nothing.
use Rattle.fit.specs.Corner.{near_corner}
use Rattle.fit.proofs.corners.near_corner.Goals as goal

pub returns-in_default : goal.returns-in_default
unfolding near_corner
returns-in_default c = simp c.in_default.is

pub returns-then-d2 : goal.returns-then-d2
unfolding near_corner
returns-then-d2 c = simp (c.in-At.is, ← c.d2.ensures, c.if-d2.true)

pub returns : goal.returns
unfolding near_corner
returns c = simp (c.in-At.is, ← c.d2.ensures, c.if-d2.false)
