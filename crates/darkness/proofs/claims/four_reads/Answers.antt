-- The theorem is `four-reads` of `proofs/Boxes.antt`. Assumes nothing.
use Rattle.darkness.proofs.Boxes as laws
use Rattle.darkness.proofs.claims.four_reads.Goals as goal

pub returns : goal.returns
returns c = laws.four-reads
