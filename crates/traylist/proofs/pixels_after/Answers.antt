-- `traylist::pixels_after` meets its contract. Assumes nothing.
use lib.Seq.{length-take-le}
use native.Mathlib.Omega.{arith}
use mathlib.Core.Path.{sym}
use Rattle.traylist.proofs.pixels_after.Goals as goal

pub slice_bounds-pixels-end : goal.slice_bounds-pixels-end
slice_bounds-pixels-end c =
    let a = c.args in
    sym (length-take-le a.n a.bytes.now (omega arith))
