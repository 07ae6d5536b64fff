-- The first k cells of dst are drawn, and k is in column x and row y (Drawing). Assumes nothing.
use native.Mathlib.Omega.{arith}
use Rattle.laws.proofs.Drawing.{drawing-begin, drawing-on, drawing-row}
use Rattle.levels.proofs.pool.pool_across.Goals as goal
use Rattle.levels.proofs.pool.pool_across.Goals.{then-x-w, else-x-w}

pub loop-k-init : goal.loop-k-init
loop-k-init c = drawing-begin _ _ _ _

pub loop-k-preserved : goal.loop-k-preserved
loop-k-preserved c =
    let d = c.loop-k.invariant in
    let l = c.loop-k-test.true in
    let v = c.across_cell.ensures in
    elim c.if-x-w.branch [
      | then-x-w w ↦ rw (w.x-is, w.y-is) (drawing-row d l (omega arith) v w.if-x-w.true)
      | else-x-w w ↦ rw (w.x-is, w.y-is) (drawing-on d l (omega arith) v w.if-x-w.false)
    ]
