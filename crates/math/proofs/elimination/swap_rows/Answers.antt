-- `math::elimination::swap_rows` meets its contract.
-- Invariant: exchanging the places that are left gives the result. Assumes nothing.
use Rattle.std.proofs.Common.{sym, ap, ◌∙◌, arith, List, ◌-◌, ◌+◌}
use Rattle.std.specs.Prelude.{Float}
use Rattle.math.specs.Elimination.{swap_on}
use Rattle.math.proofs.Lists.{swap-swapped}
use Rattle.math.proofs.Eliminations.{swap_step, swap-end, swap-start}
use Rattle.math.proofs.elimination.swap_rows.Goals as goal

pub loop-k-init : goal.loop-k-init
loop-k-init c = swap-start _ _ _ _

pub loop-k-preserved : goal.loop-k-preserved
loop-k-preserved c =
    let a = c.args in
    let l = c.loop-k in
    ap (λ (x : List Float). swap_on a.i a.j (a.n - (l.k + 1)) (l.k + 1) x)
    (c.swap.ensures.after ∙ swap-swapped _ _ _ (omega arith) (omega arith))
    ∙ sym (swap_step _ _ _ _ _ c.loop-k-test.true) ∙ l.invariant

pub returns : goal.returns
returns c = sym (swap-end _ _ _ _ _ c.loop-k-test.false) ∙ c.loop-k.invariant
