-- `lens::measure::bow_near` meets its contract: the tests are the definition's in the other order. Assumes nothing.
use Rattle.ieee.specs.Constants.{0·1, 0·9}
use Rattle.fit.proofs.Bands.{then-and, stop-and}
use Rattle.fit.specs.Select.{within}
use Rattle.lens.specs.Measure.{bow_near}
use Rattle.lens.proofs.measure.bow_near.Goals as goal

pub returns-then-at_most : goal.returns-then-at_most
unfolding bow_near
returns-then-at_most c = then-and c.at_most.ensures c.if-at_most.true c.between.ensures

pub returns : goal.returns
unfolding bow_near
returns c = stop-and (within 0·1 0·9 c.args.t) c.at_most.ensures c.if-at_most.false
