-- `accept::runner_up` meets its contract. The greatest so far, followed over the places that are left, is the greatest of all. Assumes
-- nothing.
use Rattle.accept.proofs.BestScores.{runner-begin, runner-step, runner-end}
use Rattle.accept.proofs.runner_up.Goals as goal

pub loop-k-init : goal.loop-k-init
loop-k-init c = runner-begin _ _ _

pub loop-k-preserved : goal.loop-k-preserved
loop-k-preserved c = runner-step _ _ _ _ _ _ _ c.loop-k-test.true c.other-top.ensures c.loop-k.invariant

pub returns : goal.returns
returns c = runner-end _ _ _ _ _ _ c.loop-k-test.false c.loop-k.invariant
