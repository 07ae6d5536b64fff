-- `math::equations::add_cells` meets its contract.
-- Invariant: adding to the places that are left gives the result. Assumes nothing.
use Rattle.math.proofs.Samples.{cells-begin, cells-step, cells-end}
use Rattle.math.proofs.equations.add_cells.Goals as goal

pub loop-j-init : goal.loop-j-init
loop-j-init c = cells-begin _ _ _ _ _

pub loop-j-preserved : goal.loop-j-preserved
loop-j-preserved c = cells-step _ _ _ _ _ _ _ c.loop-j-test.true c.loop-j.invariant

pub returns : goal.returns
returns c = cells-end _ _ _ _ _ _ _ c.loop-j-test.false c.loop-j.invariant
