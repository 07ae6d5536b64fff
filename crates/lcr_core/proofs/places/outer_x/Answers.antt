-- `lcr_core::places::outer_x` meets its contract. Assumes nothing.
use native.Mathlib.Omega.{arith}
use Rattle.lcr_core.proofs.Cells.{outer-x-1, outer-x-2, outer-x-3, outer-x-4}
use Rattle.lcr_core.proofs.places.outer_x.Goals as goal

pub returns-then-p-q : goal.returns-then-p-q
returns-then-p-q c =
    record {
      within = omega arith;
      answer = outer-x-1 c.args.q c.args.p (omega arith);
    }

pub returns-then-p-q-2 : goal.returns-then-p-q-2
returns-then-p-q-2 c =
    record {
      within = omega arith;
      answer = outer-x-2 c.args.q c.args.p (omega arith) (omega arith);
    }

pub returns-then-p-q-3 : goal.returns-then-p-q-3
returns-then-p-q-3 c =
    record {
      within = omega arith;
      answer = outer-x-3 c.args.q c.args.p (omega arith) (omega arith);
    }

pub returns : goal.returns
returns c =
    record {
      within = omega arith;
      answer = outer-x-4 c.args.q c.args.p (omega arith);
    }
