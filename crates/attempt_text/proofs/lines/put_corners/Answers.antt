-- `attempt_text::lines::put_corners` meets its contract. Assumes nothing.
use Rattle.attempt_text.proofs.Texts.{some-corners, no-corners}
use native.Mathlib.Omega.{arith}
use Rattle.attempt_text.proofs.lines.put_corners.Goals as goal

pub returns-in_default : goal.returns-in_default
returns-in_default c =
    let e = c.line.ensures in
    record {
      out = no-corners c.args.c c.in_default.is e.out;
      most = omega (arith, e.answer);
    }

pub returns : goal.returns
returns c =
    let e = c.put_quad.ensures in
    record {
      out = some-corners c.args.c _ c.in-Some.is e.out;
      most = omega (arith, e.most);
    }
