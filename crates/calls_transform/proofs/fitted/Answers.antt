-- `calls_transform::fitted` meets its contract. Assumes nothing.
use lib.Seq.{length-take-le}
use lib.ListN.{length}
use Prim.Native.Nat.{◌≤◌}
use mathlib.Core.Path.{sym}
use borrow.Author.Rules.{rules}
use Rattle.calls_transform.proofs.fitted.Goals as goal

pub slice_bounds-eight-end : goal.slice_bounds-eight-end
slice_bounds-eight-end c =
    let s = c.args.args.now in
    let h : 8 ≤ length s = search rules in
    sym (length-take-le 8 s h)
