-- `tag_text::decimal::put_fixed` meets its contract. Assumes nothing.
use Rattle.std.proofs.Common.{arith}
use Rattle.tag_text.proofs.Numbers.{far-stored, near-stored}
use Rattle.tag_text.proofs.decimal.put_fixed.Goals as goal

pub returns-then-is_far : goal.returns-then-is_far
returns-then-is_far c =
    let a = c.args in
    let f = c.is_far in
    let s = c.put_byte-a.ensures in
    let w = c.put_word.ensures in
    record {
      out = far-stored a.digits a.x f.result f.ensures s c.if-is_far.true w;
      most = omega (
        arith,
        s.next,
        w.next,
      );
    }

pub returns : goal.returns
returns c =
    let a = c.args in
    let f = c.is_far in
    let s = c.put_byte-a.ensures in
    let n = c.scale-n in
    let p = c.put_pointed.ensures in
    record {
      out = near-stored a.digits a.x f.result f.ensures s n.result n.ensures c.if-is_far.false p.out;
      most = omega (arith, s.next, p.most);
    }
