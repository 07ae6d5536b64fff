-- `attempt_text::lines::put_fixed` meets its contract. Assumes nothing.
use Rattle.attempt_text.proofs.Texts.{some-ring, no-ring}
use native.Mathlib.Omega.{arith}
use Rattle.attempt_text.proofs.lines.put_fixed.Goals as goal

pub returns-in_default : goal.returns-in_default
returns-in_default c =
    let a = c.args in
    let w = c.put_word-w.ensures in
    let e = c.line.ensures in
    record {
      out = no-ring a.word.now a.f w c.in_default.is e.out;
      most = omega (arith, w.next, e.answer);
    }

pub returns : goal.returns
returns c =
    let a = c.args in
    let w = c.put_word-w.ensures in
    let e = c.put_ring.ensures in
    record {
      out = some-ring a.word.now a.f w _ c.in-Some.is e.out;
      most = omega (arith, w.next, e.most);
    }
