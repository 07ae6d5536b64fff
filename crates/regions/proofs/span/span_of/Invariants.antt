-- The box is that of the first cells, and the next one is in column x and row y (Spanning). Assumes nothing.
use Rattle.regions.proofs.Spans.{Spanning}
use Rattle.regions.proofs.span.span_of.Given as goal

abbrev pub invariant-loop-cell : goal.invariant-loop-cell
invariant-loop-cell s = Spanning s.labels s.l s.w s.h s.cell-index s.x s.y s.b.x0 s.b.y0 s.b.x1 s.b.y1
