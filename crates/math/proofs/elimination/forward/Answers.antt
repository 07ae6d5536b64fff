-- `math::elimination::forward` meets its contract: column by column.
-- Invariant: eliminating the columns that are left gives the result. Assumes nothing.
use mathlib.Core.Path.{sym, ◌∙◌}
use Rattle.math.proofs.Eliminations.{forward-none, forward-next, forward-end, forward-start}
use Rattle.math.proofs.elimination.forward.Goals as goal

pub loop-c-init : goal.loop-c-init
loop-c-init c = forward-start _ _

pub returns-then-x : goal.returns-then-x
returns-then-x c =
    forward-none _ _ _ _ _ _ c.loop-c-test.true c.pivot_row-p.ensures.0 c.abs64-x.ensures c.if-x.true c.loop-c.invariant

pub loop-c-preserved : goal.loop-c-preserved
loop-c-preserved c =
    forward-next _ _ _ _ _ _ _ _ c.loop-c-test.true c.pivot_row-p.ensures.0 c.abs64-x.ensures c.if-x.false c.arrange.ensures
    c.clear_below.ensures c.loop-c.invariant

pub returns : goal.returns
returns c = sym (forward-end _ _ _ c.loop-c-test.false) ∙ c.loop-c.invariant
