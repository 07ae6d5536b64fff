-- The marks read back are the sequence moved. Assumes nothing.
use Rattle.proof_ring.proofs.Back.{read-back-all}
use Rattle.proof_ring.proofs.claims.read_back.Goals as goal

pub returns : goal.returns
returns c = read-back-all
