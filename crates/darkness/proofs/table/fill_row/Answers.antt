-- Row y is filled up to level cell c (RowTo). Assumes nothing.
use native.Mathlib.Omega.{arith}
use Rattle.darkness.proofs.Filled.{bounds, row-begin, row-turn}
use Rattle.darkness.proofs.table.fill_row.Goals as goal

pub loop-c-init : goal.loop-c-init
loop-c-init c =
    let a = c.args in
    let m = bounds a.w a.h a.y (omega arith) (omega arith) (omega arith) in
    row-begin _ a.w a.y a.table.now c.requires.table_held (omega (arith, c.requires.sized.room))

pub loop-c-preserved : goal.loop-c-preserved
loop-c-preserved c =
    let a = c.args in
    let at = c.loop-c in
    row-turn _ a.w a.y at.c at.invariant c.fill_cell-sum.ensures
