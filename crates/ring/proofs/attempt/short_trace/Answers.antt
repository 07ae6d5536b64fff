-- `ring::attempt::short_trace` meets its contract. Assumes nothing.
use Rattle.ring.proofs.Traces.{short-is}
use Rattle.ring.proofs.attempt.short_trace.Goals as goal

pub returns : goal.returns
returns c = short-is _ _ c.start-s.ensures
