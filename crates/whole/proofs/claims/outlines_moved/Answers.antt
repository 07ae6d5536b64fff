-- `whole::claims::outlines_moved` meets its contract, by `hull-round`, `quad-round` and `quad-clockwise`. Assumes nothing.
use Rattle.whole.specs.Hull.{hull}
use Rattle.whole.specs.Claims.{OutlinesMoved}
use Rattle.whole.proofs.Clockwise.{quad-clockwise}
use Rattle.whole.proofs.Rounds.{hull-round, quad-round}
use Rattle.whole.proofs.claims.outlines_moved.Goals as goal

pub returns : goal.returns
unfolding OutlinesMoved
returns c =
    λ m w h P Q same. record {
      hulls = hull-round m w h P Q same;
      quads = λ a b far one other. (quad-round m w h P Q same a b far one other, quad-clockwise (hull Q));
    }
