-- `math::equations::add_rows` meets its contract.
-- Invariant: adding the samples that are left gives the result. Assumes nothing.
use Rattle.std.proofs.Common.{length}
use Rattle.math.specs.Elimination.{sys}
use Rattle.math.proofs.Samples.{rows-begin, rows_step, rows_end}
use Rattle.math.proofs.equations.add_rows.Goals as goal

pub loop-r-init : goal.loop-r-init
loop-r-init c = rows-begin _ _ _ _ _

pub loop-r-preserved : goal.loop-r-preserved
loop-r-preserved c =
    rows_step _ _ _ (length c.args.targets.now) c.loop-r.r (sys c.loop-r.m c.loop-r.v) _ _ c.loop-r-test.true
    c.add_lines.ensures c.loop-r.invariant

pub returns : goal.returns
returns c = rows_end _ _ _ (length c.args.targets.now) c.loop-r.r _ _ c.loop-r-test.false c.loop-r.invariant
