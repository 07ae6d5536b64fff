-- The claim: the theorem is `letters-apart` of `proofs/Apart.antt`. Assumes nothing.
use Rattle.tray.proofs.Apart as laws
use Rattle.tray.proofs.claims.letters_apart.Goals as goal

pub returns : goal.returns
returns c = laws.letters-apart
