-- `tag_text::decimal::put_sign` meets its contract. Assumes nothing.
use Rattle.std.proofs.Common.{arith}
use Rattle.tag_text.proofs.Numbers.{sign-on, sign-off}
use Rattle.tag_text.proofs.decimal.put_sign.Goals as goal

pub returns-then-minus : goal.returns-then-minus
returns-then-minus c =
    let p = c.put_byte.ensures in
    record {
      out = sign-on c.args.minus c.if-minus.true p;
      most = omega
          (arith, p.next);
    }

pub returns : goal.returns
returns c =
    let a = c.args in
    record {
      out = sign-off a.at a.out.now a.minus c.if-minus.false;
      most = omega arith;
    }
