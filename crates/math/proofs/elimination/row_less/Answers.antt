-- `math::elimination::row_less` meets its contract.
-- Invariant: doing the places that are left gives the result. Assumes nothing.
use Rattle.std.proofs.Common.{sym, ◌∙◌}
use Rattle.math.proofs.Eliminations.{row_step, row-end}
use Rattle.math.proofs.elimination.row_less.Goals as goal

pub loop-k-preserved : goal.loop-k-preserved
loop-k-preserved c = sym (row_step _ _ _ _ _ _ c.loop-k-test.true) ∙ c.loop-k.invariant

pub returns : goal.returns
returns c = sym (row-end _ _ _ _ _ _ c.loop-k-test.false) ∙ c.loop-k.invariant
