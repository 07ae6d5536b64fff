-- `whole_hull::laying::put_vertex` meets its contract. Assumes nothing.
use Rattle.laws.proofs.Stores.{stored-ext}
use Rattle.whole_hull.proofs.Stores.{numbers-one}
use Rattle.whole_hull.proofs.laying.put_vertex.Goals as goal

pub returns : goal.returns
returns c =
    let x = c.seen-x in
    let y = c.seen-y in
    stored-ext _ _ (numbers-one _ _ _ x.ensures.0 y.ensures.0) c.put_point.ensures
