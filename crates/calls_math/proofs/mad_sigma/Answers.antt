-- `calls_math::mad_sigma` meets its contract. Assumes nothing.
use lib.Seq.{length-take-le}
use lib.ListN.{length}
use Prim.Native.Nat.{◌≤◌}
use mathlib.Core.Path.{sym}
use borrow.Author.Rules.{rules}
use Rattle.calls_math.proofs.mad_sigma.Goals as goal

pub slice_bounds-mad_sigma_of-end : goal.slice_bounds-mad_sigma_of-end
slice_bounds-mad_sigma_of-end c =
    let s = c.args.args.now in
    let w = c.room-x.result in
    let h : length s ≤ length w = search rules in
    sym (length-take-le (length s) w h)
