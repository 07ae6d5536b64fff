-- `attempt_text::lines::put_ring` meets its contract. Assumes nothing.
use Rattle.laws.proofs.Stores.{stored-append}
use native.Mathlib.Omega.{arith}
use Rattle.attempt_text.proofs.lines.put_ring.Goals as goal

pub returns : goal.returns
returns c =
    let v = c.put_small-a.ensures in
    let a = c.put_single-b.ensures in
    let m = c.put_map-c.ensures in
    let e = c.put_byte.ensures in
    record {
      out = stored-append v.out (stored-append a.out (stored-append m.out e));
      most = omega (arith, v.most, a.most, m.most, e.next);
    }
