-- `tag_text::lines::put_refused` meets its contract. Assumes nothing.
use Rattle.std.proofs.Common.{refl, arith}
use Rattle.tag_text.proofs.Texts.{refused-stored}
use Rattle.tag_text.proofs.lines.put_refused.Goals as goal

pub returns : goal.returns
returns c =
    let w = c.put_word-a.ensures in
    let n = c.put_count-b.ensures in
    let e = c.put_byte.ensures in
    record {
      out = refused-stored _ _ refl w n.out e;
      most = omega (arith, w.next, n.most, e.next);
    }
