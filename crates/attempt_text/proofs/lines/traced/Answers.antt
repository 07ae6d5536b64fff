-- `attempt_text::lines::traced` meets its contract. Assumes nothing.
use Rattle.attempt_text.proofs.Texts.{trace-stored}
use native.Mathlib.Omega.{arith}
use Rattle.attempt_text.proofs.lines.traced.Goals as goal

pub returns : goal.returns
returns c =
    let h = c.counted-a.ensures in
    let q = c.put_corners-b.ensures in
    let s = c.put_scores-c.ensures in
    let f = c.put_fixed-d.ensures in
    let g = c.put_fixed.ensures in
    record {
      out = trace-stored c.args.t h.out q.out s.out f.out g.out;
      most = omega
          (arith, h.most, q.most, s.most, f.most, g.most);
    }
