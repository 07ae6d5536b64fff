-- `tag_text::lines::put_tags` meets its contract. Assumes nothing.
use Rattle.std.proofs.Common.{arith}
use Rattle.tag_text.proofs.Texts.{none-stored, some_stored}
use Rattle.tag_text.proofs.lines.put_tags.Goals as goal

pub returns-then-n-eq0 : goal.returns-then-n-eq0
returns-then-n-eq0 c =
    let n = c.at_most_four-n in
    let w = c.put_word.ensures in
    record {
      out = none-stored c.args.t n.result n.ensures c.if-n-eq0.true w;
      most = omega (arith, w.next);
    }

pub returns : goal.returns
returns c =
    let n = c.at_most_four-n in
    let l = c.put_list.ensures in
    record {
      out = some_stored c.args.t n.result n.ensures c.if-n-eq0.false l.out;
      most = omega (arith, l.most, n.ensures);
    }
