-- `math::elimination::clear_below` meets its contract. Assumes nothing.
-- Invariant: eliminating column c from the rows that are left gives what eliminating it from all of them gave.
use mathlib.Core.Path.{sym, ◌∙◌}
use Rattle.math.proofs.Eliminations.{clear-end, clear-turn}
use Rattle.math.proofs.elimination.clear_below.Goals as goal

pub loop-r-preserved : goal.loop-r-preserved
loop-r-preserved c = clear-turn _ _ _ _ _ _ _ c.loop-r-test.true c.clear_row.ensures c.loop-r.invariant

pub returns : goal.returns
returns c = sym (clear-end _ _ _ _ _ c.loop-r-test.false) ∙ c.loop-r.invariant
