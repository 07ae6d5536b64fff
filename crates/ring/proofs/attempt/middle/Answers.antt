-- `ring::attempt::middle` meets its contract. Assumes nothing.
use mathlib.Core.Path.{refl}
use native.Mathlib.Omega.{arith}
use Rattle.fit.proofs.Bands.{small_float}
use Rattle.ring.specs.Trace.{picture_middle}
use Rattle.ring.proofs.attempt.middle.Goals as goal

pub int_to_float-result : goal.int_to_float-result
int_to_float-result c = let z = c.requires in small_float c.args.w (omega arith)

pub int_to_float-result-2 : goal.int_to_float-result-2
int_to_float-result-2 c = let z = c.requires in small_float c.args.h (omega arith)

pub returns : goal.returns
unfolding picture_middle
returns c = refl
