-- `tag_text::lines::put_pose` meets its contract. Assumes nothing.
use Rattle.std.proofs.Common.{arith}
use Rattle.tag_text.proofs.Texts.{pose-stored}
use Rattle.tag_text.proofs.lines.put_pose.Goals as goal

pub returns : goal.returns
returns c =
    let a = c.args in
    let v = c.put_word-a.ensures in
    let m = c.put_answer-b.ensures in
    let w = c.put_word-c.ensures in
    let q = c.put_corners-d.ensures in
    let e = c.put_byte.ensures in
    record {
      out = pose-stored a.mirrored a.corners v m.out w q.out e;
      most = omega (arith, v.next, m.most, w.next, q.most, e.next);
    }
