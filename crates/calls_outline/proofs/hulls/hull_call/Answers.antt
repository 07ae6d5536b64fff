-- `calls_outline::hulls::hull_call` meets its contract. Assumes nothing.
use lib.Seq.{length-take-le}
use lib.ListN.{length}
use Prim.Native.Nat.{◌-◌}
use native.Mathlib.Omega.{arith}
use mathlib.Core.Path.{◌≡◌, sym}
use Rattle.calls_outline.proofs.hulls.hull_call.Goals as goal

pub slice_bounds-hull_lent-end : goal.slice_bounds-hull_lent-end
slice_bounds-hull_lent-end c =
    let l : length c.read32.new.to ≡ length c.room-p.result =
    c.read32.auto.to in
    let r = c.room-p.ensures in
    sym (length-take-le (length
    c.args.args.now
    - 1) c.read32.new.to (omega arith))

pub slice_bounds-hull_lent-end-2 : goal.slice_bounds-hull_lent-end-2
slice_bounds-hull_lent-end-2 c =
    let r = c.room-list.ensures in
    sym (length-take-le c.many-m.result
    c.room-list.result (omega arith))

pub hull_lent-requires : goal.hull_lent-requires
hull_lent-requires c =
    let r = c.room-list.ensures in
    let l = length-take-le c.many-m.result
    c.room-list.result (omega arith) in
    omega arith
