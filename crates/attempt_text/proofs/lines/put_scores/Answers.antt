-- `attempt_text::lines::put_scores` meets its contract. Assumes nothing.
use Rattle.attempt_text.proofs.Texts.{scores-stored}
use native.Mathlib.Omega.{arith}
use Rattle.attempt_text.proofs.lines.put_scores.Goals as goal

pub returns : goal.returns
returns c =
    let a = c.counted-a.ensures in
    let b = c.put_list.ensures in
    record {
      out = scores-stored c.args.s a.out b.out;
      most = omega
          (arith, a.most, b.most, c.requires.0);
    }
