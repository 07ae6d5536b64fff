-- The claim: the theorem is `lines-drawn` of `proofs/Pixels.antt`. Assumes nothing.
use Rattle.drawing.proofs.Pixels as laws
use Rattle.drawing.proofs.claims.lines_drawn.Goals as goal

pub returns : goal.returns
returns c = laws.lines-drawn
