-- The box is that of the first cells, and the next one is in column x and row y (Spanning). Assumes nothing.
use native.Mathlib.Omega.{arith}
use Rattle.regions.proofs.Spans.{boxed-small, spanning-begin, spanning-end, spanning-on, spanning-row}
use Rattle.regions.proofs.span.span_of.Goals as goal
use Rattle.regions.proofs.span.span_of.Goals.{then-x-w, else-x-w}

pub loop-cell-init : goal.loop-cell-init
loop-cell-init c = spanning-begin _ _ _ _ c.requires.some

pub loop-cell-preserved : goal.loop-cell-preserved
loop-cell-preserved c =
    elim c.if-x-w.branch [
      | then-x-w w ↦ rw (w.x-is, w.y-is) (spanning-row c.loop-cell.invariant c.loop-cell-test.true c.grown-b.ensures w.if-x-w.true)
      | else-x-w w ↦ rw (w.x-is, w.y-is) (spanning-on c.loop-cell.invariant c.loop-cell-test.true c.grown-b.ensures w.if-x-w.false)
    ]

pub returns : goal.returns
returns c =
    let b = spanning-end c.loop-cell.invariant c.loop-cell-test.false in
    record {
      x0 = boxed-small c.args.labels.now c.args.l c.args.w c.args.h c.requires.some (omega (arith, c.requires.many)) b;
      boxed = b;
    }
