-- `math::elimination::pivot_row` meets its contract.
-- Invariant: the greatest of p and the rows that are left is the pivot, and p is a row. Assumes nothing.
use mathlib.Core.Path.{sym, ap, ◌∙◌}
use mathlib.Core.Bool.{Bool, cond}
use Rattle.math.proofs.Eliminations.{pivot-end, pivot-next}
use Rattle.math.proofs.elimination.pivot_row.Goals as goal
use Rattle.math.proofs.elimination.pivot_row.Goals.{then-y-x, else-y-x}

pub loop-r-preserved : goal.loop-r-preserved
loop-r-preserved c =
    pivot-next _ _ _ c.loop-r.r c.loop-r.p c.if-y-x.p _ c.abs64-x.result c.abs64-y.result
    c.loop-r-test.true c.loop-r.invariant.0 c.abs64-x.ensures c.abs64-y.ensures
    (elim c.if-y-x.branch [
      | then-y-x w ↦ w.p-is ∙ sym (ap (λ (b : Bool). cond b c.loop-r.r c.loop-r.p) w.if-y-x.true)
      | else-y-x w ↦ w.p-is ∙ sym (ap (λ (b : Bool). cond b c.loop-r.r c.loop-r.p) w.if-y-x.false)
    ])
    c.loop-r.invariant.1

pub returns : goal.returns
returns c = (sym (pivot-end _ _ _ _ _ c.loop-r-test.false) ∙ c.loop-r.invariant.1, c.loop-r.invariant.0)
