-- `ring::quads::is_fixed` meets its contract. Assumes nothing.
use Rattle.ring.specs.Trace.{is_fixed}
use Rattle.ring.proofs.quads.is_fixed.Goals as goal

pub returns : goal.returns
unfolding is_fixed
returns c = c.is_some.ensures
