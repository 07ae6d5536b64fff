-- `math::elimination::less_row` meets its contract.
-- Invariant: taking the products that are left gives the result. Assumes nothing.
use mathlib.Core.Path.{sym, ◌∙◌}
use Rattle.math.proofs.Eliminations.{less-step, less-end}
use Rattle.math.proofs.elimination.less_row.Goals as goal

pub loop-k-preserved : goal.loop-k-preserved
loop-k-preserved c = sym (less-step _ _ _ _ _ _ c.loop-k-test.true) ∙ c.loop-k.invariant

pub returns : goal.returns
returns c = sym (less-end _ _ _ _ _ _ c.loop-k-test.false) ∙ c.loop-k.invariant
