-- The ring door refuses no try: the theorem is `tries-taken` of `proofs/Taken.antt`. Assumes nothing.
use Rattle.finder.proofs.Taken.{tries-taken}
use Rattle.finder.proofs.claims.tries_taken.Goals as goal

pub returns : goal.returns
returns c = tries-taken
