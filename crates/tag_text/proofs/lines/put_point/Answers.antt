-- `tag_text::lines::put_point` meets its contract. Assumes nothing.
use Rattle.std.proofs.Common.{arith}
use Rattle.tag_text.proofs.Texts.{point-stored}
use Rattle.tag_text.proofs.lines.put_point.Goals as goal

pub returns : goal.returns
returns c =
    let x = c.put_fixed-a.ensures in
    let y = c.put_fixed.ensures in
    record {
      out = point-stored c.args.p x.out y.out;
      most = omega (
        arith,
        x.most,
        y.most,
      );
    }
