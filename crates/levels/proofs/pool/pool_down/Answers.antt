-- The first k cells of dst are drawn and bytes, and k is in column x and row y. Assumes nothing.
use native.Mathlib.Omega.{arith}
use Rattle.laws.proofs.Drawing.{drawing-begin, drawing-on, drawing-row}
use Rattle.laws.proofs.Writes.{small-step}
use Rattle.levels.proofs.pool.pool_down.Goals as goal
use Rattle.levels.proofs.pool.pool_down.Goals.{then-x-w, else-x-w}

pub loop-k-init : goal.loop-k-init
loop-k-init c = (drawing-begin _ _ _ _, λ i l. absurd (omega arith))

pub loop-k-preserved : goal.loop-k-preserved
loop-k-preserved c =
    let d = c.loop-k.invariant.0 in
    let l = c.loop-k-test.true in
    let v = c.down_cell.ensures in
    let small = small-step 255 c.loop-k.k c.down_cell.result c.loop-k.dst c.loop-k.invariant.1 (omega arith) (omega (arith, d.same)) in
    elim c.if-x-w.branch [
      | then-x-w w ↦ (rw (w.x-is, w.y-is) (drawing-row d l (omega arith) v w.if-x-w.true), small)
      | else-x-w w ↦ (rw (w.x-is, w.y-is) (drawing-on d l (omega arith) v w.if-x-w.false), small)
    ]
