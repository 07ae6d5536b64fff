-- `tag_text::lines::put_corners` meets its contract. Assumes nothing.
use Rattle.std.proofs.Common.{arith}
use Rattle.tag_text.proofs.Texts.{corners-stored}
use Rattle.tag_text.proofs.lines.put_corners.Goals as goal

pub returns : goal.returns
returns c =
    let p = c.put_point-a.ensures in
    let q = c.put_point-b.ensures in
    let r = c.put_point-c.ensures in
    let s = c.put_point.ensures in
    record {
      out = corners-stored c.args.q p.out q.out r.out s.out;
      most = omega (
        arith,
        p.most,
        q.most,
        r.most,
        s.most,
      );
    }
