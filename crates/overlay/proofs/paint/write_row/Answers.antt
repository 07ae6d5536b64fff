-- `overlay::paint::write_row` meets its contract. Assumes nothing.
use mathlib.Core.Path.{sym}
use Prim.Native.Nat.{◌*◌}
use native.Mathlib.Omega.{arith}
use lib.Seq.{length-take-le}
use Rattle.overlay.proofs.paint.write_row.Goals as goal

pub slice_bounds-write_all-end-2 : goal.slice_bounds-write_all-end-2
slice_bounds-write_all-end-2 c =
    let a = c.args in
    sym (length-take-le (3 * a.w) c.put_row.new.row (omega arith))
