-- `attempt_text::lines::line` meets its contract. Assumes nothing.
use Rattle.laws.proofs.Stores.{stored-append}
use native.Mathlib.Omega.{arith}
use Rattle.attempt_text.proofs.lines.line.Goals as goal

pub returns : goal.returns
returns c =
    let w = c.put_word-a.ensures in
    let e = c.put_byte.ensures in
    record {
      out = stored-append w e;
      answer = omega (arith, w.next, e.next);
    }
