-- `attempt_text::pieces::put_small` meets its contract. Assumes nothing.
use Rattle.attempt_text.proofs.Parts.{small-few}
use native.Mathlib.Omega.{arith}
use Rattle.attempt_text.proofs.pieces.put_small.Goals as goal

pub put_spaced-requires : goal.put_spaced-requires
put_spaced-requires c = omega (arith, small-few c.args.n (omega (arith, c.ranges.n)))

pub returns : goal.returns
returns c =
    let s = c.put_spaced.ensures in
    record {
      out = s;
      most = omega (
        arith,
        s.next,
        small-few c.args.n (omega (
          arith,
          c.ranges.n,
        )),
      );
    }
