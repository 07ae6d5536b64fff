-- `math::equations::fit` meets its contract: the sums, the diagonal, the run, one after the other. Assumes nothing.
use Rattle.math.proofs.Samples.{fit_is}
use Rattle.math.proofs.equations.fit.Goals as goal

pub returns : goal.returns
returns c =
    fit_is c.args.n c.args.basis.now c.args.targets.now c.args.m.now c.args.v.now c.add_rows.new.m
    c.add_rows.new.v c.nudge.new.m c.run.result c.requires.m_value c.requires.v_value c.add_rows.ensures
    c.nudge.ensures c.run.ensures
