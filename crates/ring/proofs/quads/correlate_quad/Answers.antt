-- `ring::quads::correlate_quad` meets its contract: the span, the search, the trace by its scores. Assumes nothing.
use Rattle.ring.proofs.Traces.{quad-trace, trace-few}
use Rattle.ring.proofs.quads.correlate_quad.Goals as goal

pub returns : goal.returns
returns c =
    let a = c.args in
    let run = c.run-s.ensures in
    record {
      answer = quad-trace _ a.w a.h a.q a.l a.hull a.most _ _ _ c.span_of.ensures run.answer c.trace_by.ensures;
      bounds = trace-few a.q a.l a.hull _ _ c.trace_by.ensures run.held.few;
    }
