-- `tag_text::decimal::put_whole` meets its contract. Assumes nothing.
use Rattle.std.proofs.Common.{arith}
use Rattle.tag_text.proofs.Numbers.{count-few}
use Rattle.tag_text.proofs.decimal.put_whole.Goals as goal

pub put_number-requires : goal.put_number-requires
put_number-requires c = omega (arith, count-few c.args.n (omega (arith, c.ranges.n)), c.requires)

pub returns : goal.returns
returns c =
    let p = c.put_number.ensures in
    record {
      out = p;
      most = omega (arith, p.next, count-few c.args.n (omega (arith, c.ranges.n)));
    }
