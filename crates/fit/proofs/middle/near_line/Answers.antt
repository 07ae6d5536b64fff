-- `fit::middle::near_line` meets its contract: the tests are the definition's in the other order. Assumes nothing.
use mathlib.Core.Path.{ap, ◌∙◌}
use Rattle.ieee.specs.Constants.{0·15, 0·85}
use Rattle.fit.specs.Line.{near_line}
use Rattle.fit.specs.Select.{along_edge, within}
use Rattle.fit.proofs.Bands.{then-and, stop-and}
use Rattle.fit.proofs.middle.near_line.Goals as goal

pub returns-then-on_line : goal.returns-then-on_line
unfolding near_line
returns-then-on_line c =
    then-and c.on_line.ensures c.if-on_line.true
    (c.between.ensures ∙ ap (within 0·15 0·85) c.along_edge.ensures)

pub returns : goal.returns
unfolding near_line
returns c =
    let a = c.args in
    stop-and (within 0·15 0·85 (along_edge a.e a.x a.y)) c.on_line.ensures c.if-on_line.false
