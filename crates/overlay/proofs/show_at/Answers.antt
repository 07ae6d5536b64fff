-- `overlay::show_at` meets its contract. Assumes nothing.
use mathlib.Core.Path.{sym}
use Prim.Native.Nat.{◌*◌}
use lib.Seq.{length-take-le}
use Rattle.overlay.proofs.Parts.{few, shown}
use Rattle.overlay.proofs.show_at.Goals as goal

pub slice_bounds-show-end-2 : goal.slice_bounds-show-end-2
slice_bounds-show-end-2 c = few c.requires.file_at c.args.plane.now c.requires.in_bounds

pub slice_bounds-show-end-3 : goal.slice_bounds-show-end-3
slice_bounds-show-end-3 c =
    let a = c.args in
    let p = c.requires in
    sym (length-take-le (a.w * a.h) a.plane.now (few p.file_at a.plane.now p.in_bounds))

pub show-requires : goal.show-requires
show-requires c =
    let a = c.args in
    let p = c.requires in
    shown a.bytes.now a.w a.h a.at a.plane.now p.file_at p.in_bounds
