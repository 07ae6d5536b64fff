-- `lens::bow::rss` meets its contract. The invariant: the sum of what is left, from that so far, is the sum of all. Assumes nothing.
use Rattle.lens.proofs.Bows.{rss-begin, rss-step, rss-end}
use Rattle.lens.proofs.bow.rss.Goals as goal

pub loop-k-init : goal.loop-k-init
loop-k-init c = rss-begin _ _ _ _ _ _ _

pub loop-k-preserved : goal.loop-k-preserved
loop-k-preserved c =
    rss-step _ _ _ _ _ _ _ _ _ _ _ c.loop-k-test.true c.rest.ensures
    c.square_in-sum.ensures c.loop-k.invariant

pub returns : goal.returns
returns c = rss-end _ _ _ _ _ _ _ _ _ c.loop-k-test.false c.loop-k.invariant
