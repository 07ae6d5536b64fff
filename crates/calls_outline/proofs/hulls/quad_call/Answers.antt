-- `calls_outline::hulls::quad_call` meets its contract. Assumes nothing.
use lib.ListN.{length}
use lib.Seq.{length-take-le}
use native.Mathlib.Omega.{arith}
use mathlib.Core.Path.{◌≡◌, sym}
use Rattle.calls_outline.proofs.hulls.quad_call.Goals as goal

pub slice_bounds-quad-end : goal.slice_bounds-quad-end
slice_bounds-quad-end c =
    let l : length c.read32.new.to ≡ length c.room-p.result =
    c.read32.auto.to in
    let r = c.room-p.ensures in
    sym (length-take-le (length c.args.args.now)
    c.read32.new.to (omega arith))
