-- `attempt_text::pieces::put_count` meets its contract. Assumes nothing.
use Rattle.attempt_text.proofs.Parts.{count-few}
use native.Mathlib.Omega.{arith}
use Rattle.attempt_text.proofs.pieces.put_count.Goals as goal

pub put_spaced-requires : goal.put_spaced-requires
put_spaced-requires c = omega (arith, count-few c.args.n (omega (arith, c.ranges.n)))

pub returns : goal.returns
returns c =
    let s = c.put_spaced.ensures in
    record {
      out = s;
      most = omega (
        arith,
        s.next,
        count-few c.args.n (omega (
          arith,
          c.ranges.n,
        )),
      );
    }
