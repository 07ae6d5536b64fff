-- The lines of rule 49: the theorem is `stars` of `proofs/Stars.antt`. Assumes nothing.
use Rattle.turned.proofs.Stars as table
use Rattle.turned.proofs.claims.stars.Goals as goal

pub returns : goal.returns
returns c = table.stars
