-- `attempt_text::lines::counted` meets its contract. Assumes nothing.
use Rattle.attempt_text.proofs.Texts.{counted-stored}
use native.Mathlib.Omega.{arith}
use Rattle.attempt_text.proofs.lines.counted.Goals as goal

pub returns : goal.returns
returns c =
    let a = c.args in
    let w = c.put_word-a.ensures in
    let n = c.put_count-b.ensures in
    let e = c.put_byte.ensures in
    record {
      out = counted-stored a.word.now a.n w n.out e;
      most = omega (arith, w.next, n.most, e.next);
    }
