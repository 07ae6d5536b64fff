-- `ring::quads::trace_by` meets its contract. Assumes nothing.
use Rattle.ring.proofs.Traces.{trace-is}
use Rattle.ring.proofs.quads.trace_by.Goals as goal

pub returns : goal.returns
returns c =
    let a = c.args in
    trace-is a.q a.l a.hull a.s _ _ c.accept-fix.ensures c.fallback_of-fallback.ensures
