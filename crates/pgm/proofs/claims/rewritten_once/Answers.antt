-- The claim: the theorem is `rewritten-once` of `proofs/Rewriting.antt`. Assumes nothing.
use Rattle.pgm.proofs.Rewriting as laws
use Rattle.pgm.proofs.claims.rewritten_once.Goals as goal

pub returns : goal.returns
returns c = laws.rewritten-once
