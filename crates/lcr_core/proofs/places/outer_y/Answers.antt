-- `lcr_core::places::outer_y` meets its contract. Assumes nothing.
use native.Mathlib.Omega.{arith}
use Rattle.lcr_core.proofs.Cells.{outer-y-1, outer-y-2, outer-y-3, outer-y-4}
use Rattle.lcr_core.proofs.places.outer_y.Goals as goal

pub returns-then-p-q : goal.returns-then-p-q
returns-then-p-q c =
    record {
      within = omega arith;
      answer = outer-y-1 c.args.q c.args.p (omega arith);
    }

pub returns-then-p-q-2 : goal.returns-then-p-q-2
returns-then-p-q-2 c =
    record {
      within = omega arith;
      answer = outer-y-2 c.args.q c.args.p (omega arith) (omega arith);
    }

pub returns-then-p-q-3 : goal.returns-then-p-q-3
returns-then-p-q-3 c =
    record {
      within = omega arith;
      answer = outer-y-3 c.args.q c.args.p (omega arith) (omega arith);
    }

pub returns : goal.returns
returns c =
    record {
      within = omega arith;
      answer = outer-y-4 c.args.q c.args.p (omega arith);
    }
