-- `fit::corners::same_corner` meets its contract, either way of its first test. Assumes nothing.
use Rattle.fit.specs.Corner.{same_corner}
use Rattle.fit.proofs.Bands.{and_then, and-stop}
use Rattle.fit.proofs.corners.same_corner.Goals as goal

pub returns-then-at_most : goal.returns-then-at_most
unfolding same_corner
returns-then-at_most c = and_then c.at_most.ensures c.if-at_most.true c.at_most-then-at_most.ensures

pub returns : goal.returns
unfolding same_corner
returns c = and-stop _ c.at_most.ensures c.if-at_most.false
