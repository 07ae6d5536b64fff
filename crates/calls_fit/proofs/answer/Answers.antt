-- `calls_fit::answer` meets its contract: as many numbers as words are left are read, and lent on. Assumes nothing.
use Prim.Native.Nat.{ℕ, ◌≤◌, ◌-◌}
use borrow.Author.Rules.{rules}
use lib.ListN.{length}
use lib.Seq.{length-take-le}
use mathlib.Core.Path.{sym, subst}
use Rattle.calls_fit.proofs.answer.Goals as goal

pub slice_bounds-of_points-end : goal.slice_bounds-of_points-end
slice_bounds-of_points-end c =
    let n = length c.args.args.now - c.head-h.result in
    let w = c.read32-2.new.to in
    let h : n ≤ length w = search rules in
    sym (length-take-le n w h)

pub of_points-requires : goal.of_points-requires
of_points-requires c =
    let n = length c.args.args.now - c.head-h.result in
    let w = c.read32-2.new.to in
    let h : n ≤ length w = search rules in
    let k : n ≤ 8192 = search rules in
    subst (λ (n : ℕ). n ≤ 8192) (sym (length-take-le n w h)) k
