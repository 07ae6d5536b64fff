-- The theorem is `empty-box` of `proofs/Boxes.antt`. Assumes nothing.
use Rattle.darkness.proofs.Boxes as laws
use Rattle.darkness.proofs.claims.empty_box.Goals as goal

pub returns : goal.returns
returns c = laws.empty-box
