-- `whole::claims::quads_clockwise` meets its contract, by `quad-clockwise`. Assumes nothing.
use Rattle.whole.specs.Claims.{QuadsClockwise}
use Rattle.whole.proofs.Clockwise.{quad-clockwise}
use Rattle.whole.proofs.claims.quads_clockwise.Goals as goal

pub returns : goal.returns
unfolding QuadsClockwise
returns c = quad-clockwise
