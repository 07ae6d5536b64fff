-- `whole_hull::laying::lies_above` meets its contract. Assumes nothing.
use Rattle.whole_hull.proofs.Halves.{above-yes, above-no}
use Rattle.whole_hull.proofs.laying.lies_above.Goals as goal

pub returns-then-y-z : goal.returns-then-y-z
returns-then-y-z c = above-yes _ _ _ _ c.y_of-y.ensures c.y_of-z.ensures c.if-y-z.true

pub returns : goal.returns
returns c = above-no _ _ _ _ c.y_of-y.ensures c.y_of-z.ensures c.if-y-z.false
