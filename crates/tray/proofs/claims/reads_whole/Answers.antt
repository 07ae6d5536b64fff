-- The claim: the theorem is `reads_whole` of `proofs/Readings.antt`. Assumes nothing.
use Rattle.tray.proofs.Readings as laws
use Rattle.tray.proofs.claims.reads_whole.Goals as goal

pub returns : goal.returns
returns c = laws.reads_whole
