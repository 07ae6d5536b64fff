-- The first trace with a fix stands: the theorem is `first-fix-stands` of `proofs/Standing.antt`. Assumes nothing.
use Rattle.finder.proofs.Standing.{first-fix-stands}
use Rattle.finder.proofs.claims.first_fix_stands.Goals as goal

pub returns : goal.returns
returns c = first-fix-stands
