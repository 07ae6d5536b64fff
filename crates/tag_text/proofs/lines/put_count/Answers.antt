-- `tag_text::lines::put_count` meets its contract. Assumes nothing.
use Rattle.std.proofs.Common.{arith}
use Rattle.tag_text.proofs.Numbers.{count-few}
use Rattle.tag_text.proofs.lines.put_count.Goals as goal

pub put_spaced-requires : goal.put_spaced-requires
put_spaced-requires c = omega (arith, count-few c.args.n (omega (arith, c.ranges.n)), c.requires)

pub returns : goal.returns
returns c =
    let p = c.put_spaced.ensures in
    record {
      out = p;
      most = omega (arith, p.next, count-few c.args.n (omega (arith, c.ranges.n)));
    }
