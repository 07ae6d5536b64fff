-- The definition of the picture has what the request says. Assumes nothing.
use Rattle.proof_ring.proofs.Words.{ring-cells}
use Rattle.proof_ring.proofs.claims.ring_cells.Goals as goal

pub returns : goal.returns
returns c = ring-cells
