-- `transform::flat` meets its contract: the divisor is guarded. Assumes nothing.
use Rattle.transform.proofs.Parts.{flat-is}
use Rattle.transform.proofs.flat.Goals as goal

pub returns : goal.returns
returns c = flat-is _ _ _ _ c.guard-w.ensures
