-- The rows of the window before row g are visited (Rows). Assumes nothing.
use native.Mathlib.Omega.{arith}
use Rattle.labels.proofs.Loops.{rows-begin, rows-turn, rows_end}
use Rattle.labels.proofs.groups.visit_near.Goals as goal

pub loop-g-init : goal.loop-g-init
loop-g-init c =
    rows-begin c.saturating_sub-x0.ensures c.min-x1.ensures c.saturating_sub-y0.ensures c.min-y1.ensures c.requires.cell_grid.some
    (omega (arith, c.requires.cell_grid.size)) c.requires.safe

pub loop-g-preserved : goal.loop-g-preserved
loop-g-preserved c =
    rows-turn (omega (arith, c.requires.i_in_bounds)) c.loop-g.invariant (omega arith) c.visit_line-k.ensures c.visit_line-k.auto.labels
    c.visit_line-k.auto.stack

pub returns : goal.returns
returns c = rows_end (omega arith) c.loop-g.invariant
