-- r is the fold of the first i numbers. Assumes nothing.
use mathlib.Core.Path.{◌∙◌}
use Rattle.laws.proofs.Folds.{fold-suc, fold-zero}
use Rattle.levels.proofs.pool.join_row.Goals as goal

pub loop-v-init : goal.loop-v-init
loop-v-init c = rw fold-zero c.unit8-r.ensures

pub loop-v-preserved : goal.loop-v-preserved
loop-v-preserved c = c.join8-r.ensures ∙ rw (fold-suc, c.loop-v.invariant)
