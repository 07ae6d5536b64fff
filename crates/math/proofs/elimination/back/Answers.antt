-- `math::elimination::back` meets its contract: from the last row to the first.
-- Invariant: solving the rows that are left gives the result. Assumes nothing.
use Rattle.std.proofs.Common.{refl, sym, ◌∙◌, arith}
use Rattle.math.proofs.Eliminations.{back_step, back_end}
use Rattle.math.proofs.elimination.back.Goals as goal

pub loop-r-preserved : goal.loop-r-preserved
loop-r-preserved c = back_step _ _ _ _ _ _ _ refl c.loop-r-test.true c.less_row-s.ensures c.loop-r.invariant

pub returns : goal.returns
returns c = sym (back_end _ _ _ _ (omega arith)) ∙ c.loop-r.invariant
