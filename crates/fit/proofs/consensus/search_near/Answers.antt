-- `fit::consensus::search_near` meets its contract: the tests are the definition's in the other order. Assumes nothing.
use mathlib.Core.Path.{ap, ◌∙◌}
use lib.Ieee.{neg}
use Rattle.ieee.specs.Constants.{0·05, 1·05}
use Rattle.fit.specs.Consensus.{search_near}
use Rattle.fit.specs.Select.{along_edge, within}
use Rattle.fit.proofs.Bands.{then-and, stop-and}
use Rattle.fit.proofs.consensus.search_near.Goals as goal

pub returns-then-on_line : goal.returns-then-on_line
unfolding search_near
returns-then-on_line c =
    then-and c.on_line.ensures c.if-on_line.true
    (c.between.ensures ∙ ap (within (neg 0·05) 1·05) c.along_edge.ensures)

pub returns : goal.returns
unfolding search_near
returns c =
    let a = c.args in
    stop-and (within (neg 0·05) 1·05 (along_edge a.e a.x a.y)) c.on_line.ensures c.if-on_line.false
