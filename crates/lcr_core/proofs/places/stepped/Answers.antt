-- `lcr_core::places::stepped` meets its contract. Assumes nothing.
use native.Mathlib.Omega.{arith}
use Rattle.lcr_core.proofs.Cells.{inward-1, inward-2, inward-3}
use Rattle.lcr_core.proofs.places.stepped.Goals as goal

pub returns-then-k-eq0 : goal.returns-then-k-eq0
returns-then-k-eq0 c =
    record {
      within = omega arith;
      answer = inward-1 c.args.q c.args.k c.if-k-eq0.true;
    }

pub returns-then-k-q : goal.returns-then-k-q
returns-then-k-q c =
    record {
      within = omega arith;
      answer = inward-2 c.args.q c.args.k c.if-k-eq0.false c.if-k-q.true;
    }

pub returns : goal.returns
returns c =
    record {
      within = omega arith;
      answer = inward-3 c.args.q c.args.k c.if-k-eq0.false c.if-k-q.false;
    }
