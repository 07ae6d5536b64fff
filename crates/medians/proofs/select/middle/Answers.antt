-- `medians::select::middle` meets its contract: none, an odd number, an even number. Assumes nothing.
use Rattle.medians.proofs.Numbers.{odd_no_nan, even-no-nan, none-no-nan}
use Prim.Native.Nat.{◌<◌, ◌/◌}
use native.Mathlib.Omega.{arith}
use lib.ListN.{length}
use Rattle.medians.proofs.Counts.{same_refl, same_numbers}
use Rattle.medians.proofs.Statistics.{median-none, median-odd, median-even}
use Rattle.medians.proofs.select.middle.Goals as goal

pub returns-then-n-eq0 : goal.returns-then-n-eq0
returns-then-n-eq0 c =
    record {
      v = (median-none c.args.v.now c.if-n-eq0.true, same_refl c.args.v.now);
      answer = none-no-nan c.args.v.now;
    }

pub returns-then-n-eq1 : goal.returns-then-n-eq1
returns-then-n-eq1 c =
    let v = c.args.v.now in
    let h : length v / 2 < length v = omega arith in
    record {
      v = (
        median-odd v c.select-upper.new.v c.select-upper.result c.requires c.if-n-eq0.false c.if-n-eq1.true c.select-upper.ensures,
        c.select-upper.ensures.same,
      );
      answer = odd_no_nan v _ _ _ h c.select-upper.ensures;
    }

pub largest-lower-requires-clause-numbers : goal.largest-lower-requires-clause-numbers
largest-lower-requires-clause-numbers c = same_numbers _ _ c.select-upper.ensures.same c.requires

pub returns : goal.returns
returns c =
    let v = c.args.v.now in
    let h : length v / 2 < length v = omega arith in
    record {
      v = (
        median-even v c.select-upper.new.v c.select-upper.result c.largest-lower.result c.requires c.if-n-eq0.false
            c.if-n-eq1.false c.select-upper.ensures c.largest-lower.ensures,
        c.select-upper.ensures.same,
      );
      answer = even-no-nan v _ _ _ _ h c.select-upper.ensures c.largest-lower.ensures;
    }
