-- `overlay::paint::write_rows` meets its contract. The loop's invariant: the row's list keeps its length.
-- The measure is how many rows are left. Assumes nothing.
use native.Mathlib.Omega.{arith}
use native.Mathlib.Nat.{mul_comm}
use Rattle.laws.proofs.Planes.{row-end}
use Rattle.overlay.proofs.paint.write_rows.Goals as goal

pub overflow_mul-y : goal.overflow_mul-y
overflow_mul-y c =
    let a = c.args in
    omega (arith, row-end c.loop-y.y a.h a.w c.loop-y-test.true, mul_comm a.w a.h)

pub write_row-requires : goal.write_row-requires
write_row-requires c =
    let a = c.args in
    let end = row-end c.loop-y.y a.h a.w c.loop-y-test.true in
    record {
      w_in_bounds = omega arith;
      w_in_bounds_2 = (omega (arith, end, mul_comm a.w a.h), omega (arith, end, mul_comm a.w a.h));
    }
