-- n counts the first i bytes of the row. Assumes nothing.
use mathlib.Core.Path.{◌≡◌, sym}
use Prim.Native.Nat.{◌+◌}
use native.Mathlib.Omega.{arith}
use lib.ListN.{length}
use Rattle.labels.proofs.InkCells.{row-le, row-none, row_step}
use Rattle.labels.proofs.cells.row_ink.Goals as goal

pub loop-v-init : goal.loop-v-init
loop-v-init c = sym (row-none _ _)

pub overflow_add-n : goal.overflow_add-n
overflow_add-n c =
    let a = c.args in
    let row = a.row.now in
    let more = row_step row a.t c.loop-v.v-index c.loop-v.invariant c.one_below-n.ensures in
    omega (arith, more, row-le row a.t (c.loop-v.v-index + 1))

pub loop-v-preserved : goal.loop-v-preserved
loop-v-preserved c =
    let a = c.args in
    row_step a.row.now a.t c.loop-v.v-index c.loop-v.invariant c.one_below-n.ensures

pub returns : goal.returns
returns c =
    let a = c.args in
    let e : length a.row.now ≡ c.loop-v.v-index = omega arith in
    (rw e c.loop-v.invariant, omega (arith, row-le a.row.now a.t c.loop-v.v-index))
