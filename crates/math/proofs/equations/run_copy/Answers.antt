-- `math::equations::run_copy` meets its contract: two copies, and the run on them. Assumes nothing.
use Rattle.math.proofs.Samples.{run-copied}
use Rattle.math.proofs.equations.run_copy.Goals as goal

pub returns : goal.returns
returns c = run-copied _ _ _ _ _ _ c.copy_from_slice.ensures.after c.copy_from_slice-2.ensures.after c.run.ensures
