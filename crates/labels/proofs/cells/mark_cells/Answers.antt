-- The first k cells are marked, and k is in column x and row y (Drawing). Assumes nothing.
use mathlib.Core.Path.{◌∙◌, ap, sym}
use native.Mathlib.Omega.{arith}
use Rattle.labels.specs.Inner.{cell_mark, cell_mark_at}
use Rattle.laws.proofs.Drawing.{drawing-begin, drawing-on, drawing-row}
use Rattle.labels.proofs.cells.mark_cells.Goals as goal
use Rattle.labels.proofs.cells.mark_cells.Goals.{then-x-cw, else-x-cw}

pub loop-k-init : goal.loop-k-init
loop-k-init c = drawing-begin _ _ _ _

pub loop-k-preserved : goal.loop-k-preserved
unfolding cell_mark_at
loop-k-preserved c =
    let d = c.loop-k.invariant in
    let v = c.mark_of.ensures ∙ ap cell_mark c.cell_ink.ensures in
    elim c.if-x-cw.branch [
      | then-x-cw w ↦ rw (w.x-is, w.y-is) (drawing-row d (omega arith) (omega arith) v (w.if-x-cw.true ∙ c.region_cells-cw.ensures))
      | else-x-cw w ↦
          rw (w.x-is, w.y-is) (drawing-on d (omega arith) (omega arith) v (λ full. w.if-x-cw.false (full ∙ sym c.region_cells-cw.ensures)))
    ]
