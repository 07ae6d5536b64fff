-- `doubled::claims::whole_outlines`: the theorem is `whole-outlines`. Assumes nothing.
use Rattle.doubled.proofs.Exact.{whole-outlines}
use Rattle.doubled.proofs.claims.whole_outlines.Goals as goal

pub returns : goal.returns
returns c = whole-outlines
