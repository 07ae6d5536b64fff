-- `outline::refusals::grids_fit` meets its contract. Assumes nothing.
use Prim.Native.Nat.{◌+◌, ◌*◌, ◌/◌}
use native.Mathlib.Omega.{arith}
use borrow.Author.Tests.{le-leb, lt-leb}
use Rattle.outline.proofs.Cuts.{small_mul}
use Rattle.outline.proofs.refusals.grids_fit.Goals as goal

pub overflow_mul-w : goal.overflow_mul-w
overflow_mul-w c = let a = c.args in omega (arith, small_mul ((a.w + 15) / 16) ((a.h + 15) / 16) (omega arith) (omega arith))

pub returns-then-levels-w : goal.returns-then-levels-w
returns-then-levels-w c = let a = c.args in rw (lt-leb ((a.w + 15) / 16 * ((a.h + 15) / 16)) a.levels (omega arith))

pub overflow_mul-result : goal.overflow_mul-result
overflow_mul-result c =
    let a = c.args in omega (arith, small_mul ((a.w + 7) / 8) ((a.h + 7) / 8) (omega arith) (omega arith))

pub returns : goal.returns
returns c = let a = c.args in rw (le-leb ((a.w + 15) / 16 * ((a.h + 15) / 16)) a.levels (omega arith))
