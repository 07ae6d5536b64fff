-- The claim: the theorem is `reads-back` of `proofs/Rewriting.antt`. Assumes nothing.
use Rattle.pgm.proofs.Rewriting as laws
use Rattle.pgm.proofs.claims.reads_back.Goals as goal

pub returns : goal.returns
returns c = laws.reads-back
