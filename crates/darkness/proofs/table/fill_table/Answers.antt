-- The table is filled up to row y (CountedTo). Assumes nothing.
use native.Mathlib.Omega.{arith}
use Rattle.darkness.proofs.Filled.{all-rows, next_row, top-held}
use Rattle.darkness.proofs.table.fill_table.Goals as goal

pub loop-y-init : goal.loop-y-init
loop-y-init c =
    let a = c.args in
    top-held _ a.w c.clear_front.ensures.list

pub loop-y-preserved : goal.loop-y-preserved
loop-y-preserved c =
    let a = c.args in
    let at = c.loop-y in
    next_row _ a.w at.y at.invariant c.fill_row.ensures

pub returns : goal.returns
returns c =
    let a = c.args in
    let at = c.loop-y in
    let past = c.clear_front.ensures.list_past in
    all-rows _ a.w a.h at.y a.table.now past at.invariant (omega arith) c.requires.room
