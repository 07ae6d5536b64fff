-- `tag_text::lines::put_tag` meets its contract. Assumes nothing.
use Rattle.std.proofs.Common.{arith}
use Rattle.tag_text.proofs.Texts.{tag-stored}
use Rattle.tag_text.proofs.lines.put_tag.Goals as goal

pub returns : goal.returns
returns c =
    let r = c.put_ring-a.ensures in
    let p = c.put_pose.ensures in
    record {
      out = tag-stored c.args.t r.out p.out;
      most = omega (
        arith,
        r.most,
        p.most,
      );
    }
