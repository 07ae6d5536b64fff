-- The doors accept a picture taken, moved or not: the theorem is `doors-accept` of `proofs/Accepts.antt`. Assumes nothing.
use Rattle.turned.proofs.Accepts.{doors-accept}
use Rattle.turned.proofs.claims.doors_accept.Goals as goal

pub returns : goal.returns
returns c = doors-accept
