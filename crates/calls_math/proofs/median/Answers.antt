-- `calls_math::median` meets its contract. Assumes nothing.
use lib.Seq.{length-take-le}
use lib.ListN.{length}
use Prim.Native.Nat.{ℕ, ◌≤◌}
use mathlib.Core.Path.{sym, subst}
use borrow.Author.Rules.{rules}
use Rattle.calls_math.proofs.median.Goals as goal

pub slice_bounds-median_of-end : goal.slice_bounds-median_of-end
slice_bounds-median_of-end c =
    let s = c.args.args.now in
    let w = c.room-x.result in
    let h : length s ≤ length w = search rules in
    sym (length-take-le (length s) w h)

pub median_of-requires : goal.median_of-requires
median_of-requires c =
    let s = c.args.args.now in
    let w = c.room-x.result in
    let h : length s ≤ length w = search rules in
    let k : length s ≤ 5000 = search rules in
    subst (λ (n : ℕ). n ≤ 5000) (sym (length-take-le (length s) w h)) k
