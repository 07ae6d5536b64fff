-- The claim: the theorem is `pixels-last` of `proofs/Rewriting.antt`. Assumes nothing.
use Rattle.pgm.proofs.Rewriting as laws
use Rattle.pgm.proofs.claims.pixels_last.Goals as goal

pub returns : goal.returns
returns c = laws.pixels-last
