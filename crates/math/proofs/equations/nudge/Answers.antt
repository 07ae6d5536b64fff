-- `math::equations::nudge` meets its contract.
-- Invariant: adding to the places that are left gives the result. Assumes nothing.
use Rattle.math.proofs.Samples.{nudged-begin, nudged-step, nudged-end}
use Rattle.math.proofs.equations.nudge.Goals as goal

pub loop-i-init : goal.loop-i-init
loop-i-init c = nudged-begin _ _

pub loop-i-preserved : goal.loop-i-preserved
loop-i-preserved c = nudged-step _ _ _ _ c.loop-i-test.true c.loop-i.invariant

pub returns : goal.returns
returns c = nudged-end _ _ _ _ c.loop-i-test.false c.loop-i.invariant
