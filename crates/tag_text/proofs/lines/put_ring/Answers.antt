-- `tag_text::lines::put_ring` meets its contract. Assumes nothing.
use Rattle.std.proofs.Common.{arith}
use Rattle.tag_text.proofs.Texts.{ring-stored}
use Rattle.tag_text.proofs.lines.put_ring.Goals as goal

pub returns : goal.returns
returns c =
    let a = c.args in
    let v = c.put_word-a.ensures in
    let n = c.put_count-b.ensures in
    let w = c.put_word-c.ensures in
    let x = c.put_fixed.ensures in
    record {
      out = ring-stored a.version a.agreement v n.out w x.out;
      most = omega (arith, v.next, n.most, w.next, x.most);
    }
