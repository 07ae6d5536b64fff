-- `place` counts a coordinate from −3. Assumes nothing.
use native.Mathlib.Omega.{arith}
use Rattle.lcr_core.proofs.Signed.{cast_ok, nat-of, along-fits, along-read, along_under}
use Rattle.proof_ring.proofs.cells.place.Goals as goal

pub overflow_add-result : goal.overflow_add-result
overflow_add-result c = along-fits 4096 c.args.c c.requires.in_range c.requires.c_bound

pub overflow_cast-result : goal.overflow_cast-result
overflow_cast-result c =
    cast_ok _ _ (along-read 4096 c.args.c c.requires.in_range c.requires.c_bound)
    (let z = along_under 4096 c.args.c c.requires.in_range c.requires.c_bound in omega arith)

pub returns : goal.returns
returns c = nat-of _ _ (along-read 4096 c.args.c c.requires.in_range c.requires.c_bound)
