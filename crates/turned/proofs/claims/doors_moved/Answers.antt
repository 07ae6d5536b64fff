-- The doors carry demand 3: the theorem is `doors-moved` of `proofs/Doors.antt`. Assumes nothing.
use Rattle.turned.proofs.Doors.{doors-moved}
use Rattle.turned.proofs.claims.doors_moved.Goals as goal

pub returns : goal.returns
returns c = doors-moved
