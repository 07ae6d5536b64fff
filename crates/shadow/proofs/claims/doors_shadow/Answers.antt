-- `shadow::claims::doors_shadow`: the claim holds. Assumes nothing.
use native.Mathlib.Omega.{arith}
use Rattle.shadow.specs.Claims.{DoorsPast}
use Rattle.shadow.proofs.Past.{doors-past}
use Rattle.shadow.proofs.claims.doors_shadow.Goals as goal

pub returns : goal.returns
unfolding DoorsPast
returns c = doors-past (omega arith)
