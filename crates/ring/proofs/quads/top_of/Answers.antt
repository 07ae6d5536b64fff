-- `ring::quads::top_of` meets its contract: it is the runner-up to a place that no score has. Assumes nothing.
use Rattle.ring.proofs.quads.top_of.Goals as goal

pub returns : goal.returns
returns c = c.runner_up.ensures
