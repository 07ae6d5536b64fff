-- `fit::line::axis` meets its contract: either way of the test is the definition's. Assumes nothing.
use mathlib.Core.Bool.{true, false}
use mathlib.Core.Path.{◌∙◌}
use Rattle.fit.proofs.Sums.{axis-by}
use Rattle.fit.proofs.line.axis.Goals as goal

pub returns-then-p-q : goal.returns-then-p-q
returns-then-p-q c =
    c.along.ensures
    ∙ axis-by _ _ _ _ _ true c.root.ensures
    c.abs32-p.ensures c.abs32-q.ensures c.if-p-q.true

pub returns-else-p-q : goal.returns-else-p-q
returns-else-p-q c =
    c.along-else-p-q.ensures
    ∙ axis-by _ _ _ _ _ false c.root.ensures
    c.abs32-p.ensures c.abs32-q.ensures c.if-p-q.false
