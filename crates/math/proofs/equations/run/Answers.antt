-- `math::equations::run` meets its contract: elimination, then back substitution into as many places as there are unknowns.
-- Assumes nothing.
use Rattle.math.proofs.Doors.{zeros-length}
use Rattle.math.proofs.Samples.{run_none, run-some}
use Rattle.math.proofs.equations.run.Goals as goal

pub slice_bounds-back-end : goal.slice_bounds-back-end
slice_bounds-back-end c = zeros-length c.args.n 8 c.requires.n_bound

pub returns-then-not-forward : goal.returns-then-not-forward
returns-then-not-forward c =
    run_none c.args.n c.args.a.now c.args.b.now c.forward.new.a c.forward.new.b c.forward.result c.forward.ensures
    c.if-not-forward.true

pub returns : goal.returns
returns c =
    run-some c.args.n c.args.a.now c.args.b.now c.forward.new.a c.forward.new.b c.back.new.x c.forward.result
    c.requires.n_bound c.forward.ensures c.if-not-forward.false c.back.ensures
