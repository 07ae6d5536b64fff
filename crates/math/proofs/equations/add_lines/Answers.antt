-- `math::equations::add_lines` meets its contract.
-- Invariant: adding to the rows that are left gives the result. Assumes nothing.
use Rattle.math.proofs.Samples.{lines-begin, lines_step, lines_end}
use Rattle.math.proofs.equations.add_lines.Goals as goal

pub loop-i-init : goal.loop-i-init
loop-i-init c = lines-begin _ _ _ _ _

pub loop-i-preserved : goal.loop-i-preserved
loop-i-preserved c =
    lines_step _ _ _ _ _ c.loop-i.m c.loop-i.v _ _ c.loop-i-test.true c.add_cells.ensures c.loop-i.invariant

pub returns : goal.returns
returns c = lines_end _ _ _ _ _ _ _ c.loop-i-test.false c.loop-i.invariant
