-- The claim: the theorem is `no_gaps` of `proofs/Pixels.antt`. Assumes nothing.
use Rattle.drawing.proofs.Pixels as laws
use Rattle.drawing.proofs.claims.no_gaps.Goals as goal

pub returns : goal.returns
returns c = laws.no_gaps
