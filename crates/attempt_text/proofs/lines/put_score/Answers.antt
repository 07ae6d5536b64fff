-- `attempt_text::lines::put_score` meets its contract. Assumes nothing.
use Rattle.attempt_text.proofs.Texts.{score-stored}
use native.Mathlib.Omega.{arith}
use Rattle.attempt_text.proofs.lines.put_score.Goals as goal

pub returns : goal.returns
returns c =
    let w = c.put_word-w.ensures in
    let v = c.put_small-a.ensures in
    let a = c.put_single-b.ensures in
    let k = c.put_count-c.ensures in
    let f = c.flag in
    let m = c.put_small-d.ensures in
    let e = c.put_byte.ensures in
    record {
      out = score-stored c.args.s f.result f.ensures w v.out a.out k.out m.out e;
      most = omega (arith, w.next, v.most, a.most, k.most, m.most, e.next);
    }
