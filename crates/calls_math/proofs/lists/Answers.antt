-- `calls_math::lists` meets its contract: each list is a part of its room, as long as said. Assumes nothing.
use lib.Seq.{length-take-le}
use lib.ListN.{length}
use Prim.Native.Nat.{◌≤◌}
use mathlib.Core.Path.{sym}
use borrow.Author.Rules.{rules}
use Rattle.calls_math.proofs.lists.Goals as goal

pub slice_bounds-equations-end : goal.slice_bounds-equations-end
slice_bounds-equations-end c =
    let n = c.many-first.result in
    let w = c.read64.new.to in
    let h : n ≤ length w = search rules in
    sym (length-take-le n w h)

pub slice_bounds-equations-end-2 : goal.slice_bounds-equations-end-2
slice_bounds-equations-end-2 c =
    let n = c.many-second.result in
    let w = c.read64-2.new.to in
    let h : n ≤ length w = search rules in
    sym (length-take-le n w h)
