-- `tag_text::decimal::put_pointed` meets its contract. Assumes nothing.
use Rattle.std.proofs.Common.{arith}
use Rattle.text.proofs.Decimals.{last-length}
use Rattle.tag_text.proofs.Numbers.{pointed-stored}
use Rattle.tag_text.proofs.decimal.put_pointed.Goals as goal

pub returns : goal.returns
returns c =
    let a = c.args in
    let m = c.is_minus in
    let s = c.put_sign-a.ensures in
    let w = c.put_whole-b.ensures in
    let p = c.put_byte-c.ensures in
    let d = c.put_digits.ensures in
    record {
      out = pointed-stored a.digits a.unit a.n a.x m.result c.requires.unit_value.0 m.ensures s.out w.out p d;
      most = omega (arith, s.most, w.most, p.next, d.next, last-length a.digits a.n);
    }
