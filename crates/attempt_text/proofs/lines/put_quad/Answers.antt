-- `attempt_text::lines::put_quad` meets its contract. Assumes nothing.
use Rattle.attempt_text.proofs.Texts.{found-quad}
use native.Mathlib.Omega.{arith}
use Rattle.attempt_text.proofs.lines.put_quad.Goals as goal

pub returns : goal.returns
returns c =
    let w = c.put_word-a.ensures in
    let s = c.put_singles-b.ensures in
    let e = c.put_byte.ensures in
    record {
      out = found-quad c.args.q w s.out e;
      most = omega (arith, w.next, s.most, e.next);
    }
