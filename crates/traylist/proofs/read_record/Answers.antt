-- `traylist::read_record` meets its contract. Assumes nothing.
use Rattle.input.proofs.Reading.{stays}
use Rattle.traylist.proofs.Reading.{record-few}
use mathlib.Core.Path.{◌∙◌}
use Prim.Native.Nat.{◌+◌}
use native.Mathlib.Omega.{arith}
use Rattle.traylist.proofs.read_record.Goals as goal

pub returns : goal.returns
returns c =
    let h = c.read_part-head in
    let m = c.pixels_after-more in
    let p = c.read_part in
    record {
      most = omega (arith, h.ensures.most, m.ensures.most, p.ensures.most);
      bounds = record-few h.new.bytes p.new.bytes (2 + h.result) m.result p.result (omega (arith, h.ensures.most)) m.ensures.answer p.ensures.most p.ensures.bytes;
      letters = stays 10 h.new.bytes p.new.bytes (omega arith) p.ensures.bytes ∙ h.ensures.bytes;
    }
