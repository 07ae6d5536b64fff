-- `fit::line::scatter_about` meets its contract. The invariant: the scatter of what is left, added to that so far, is the scatter of all.
-- Assumes nothing.
use Rattle.fit.proofs.Sums.{scatter-begin, scatter-step, scatter-end}
use Rattle.fit.proofs.line.scatter_about.Goals as goal

pub loop-k-init : goal.loop-k-init
loop-k-init c = scatter-begin _ _ _ _

pub loop-k-preserved : goal.loop-k-preserved
loop-k-preserved c =
    scatter-step _ _ _ _ _ _ _ c.loop-k-test.true c.spread-t.ensures
    c.loop-k.invariant

pub returns : goal.returns
returns c = scatter-end _ _ _ _ _ _ c.loop-k-test.false c.loop-k.invariant
