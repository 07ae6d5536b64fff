-- The theorem is `of-picture` of `proofs/Boxes.antt`. Assumes nothing.
use Rattle.darkness.proofs.Boxes as laws
use Rattle.darkness.proofs.claims.of_picture.Goals as goal

pub returns : goal.returns
returns c = laws.of-picture
