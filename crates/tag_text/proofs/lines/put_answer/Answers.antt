-- `tag_text::lines::put_answer` meets its contract. Assumes nothing.
use Rattle.std.proofs.Common.{arith}
use Rattle.tag_text.proofs.Texts.{yes-stored, no-stored}
use Rattle.tag_text.proofs.lines.put_answer.Goals as goal

pub returns-then-yes : goal.returns-then-yes
returns-then-yes c =
    let w = c.put_word.ensures in
    record {
      out = yes-stored c.args.yes c.if-yes.true w;
      most = omega (arith, w.next);
    }

pub returns : goal.returns
returns c =
    let w = c.put_word-2.ensures in
    record {
      out = no-stored c.args.yes c.if-yes.false w;
      most = omega (arith, w.next);
    }
