-- `overlay::areas::region` meets its contract. Assumes nothing.
use mathlib.Core.Path.{sym}
use native.Mathlib.Omega.{arith}
use lib.Seq.{length-take-le}
use Rattle.overlay.proofs.areas.region.Goals as goal

pub slice_bounds-vertices-end-2 : goal.slice_bounds-vertices-end-2
slice_bounds-vertices-end-2 c =
    let o = c.region_points-n in
    sym (length-take-le o.result o.new.list (omega arith))

pub slice_bounds-hull_and_quad-end-2 : goal.slice_bounds-hull_and_quad-end-2
slice_bounds-hull_and_quad-end-2 c =
    let v = c.vertices-m in
    sym (length-take-le v.result v.new.list (omega arith))
