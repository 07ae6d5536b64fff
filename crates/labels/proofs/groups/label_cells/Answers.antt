-- The cells before s are done and next labels are given (Cells). Assumes nothing.
use native.Mathlib.Omega.{arith}
use Rattle.labels.proofs.Loops.{cells-begin, cells-turn, cells-end}
use Rattle.labels.proofs.groups.label_cells.Goals as goal

pub loop-s-init : goal.loop-s-init
loop-s-init c = cells-begin c.requires.0

pub loop-s-preserved : goal.loop-s-preserved
loop-s-preserved c =
    let r = c.label_at-next in
    cells-turn c.loop-s.invariant (omega arith) r.ensures.few r.ensures.state r.auto.labels r.auto.stack

pub returns : goal.returns
returns c = let i = c.loop-s.invariant in cells-end (omega (arith, i.grid.size)) i
