-- `tag_text::decimal::is_minus` meets its contract. Assumes nothing.
use Rattle.std.proofs.Common.{refl}
use Rattle.tag_text.proofs.Numbers.{minus_is, plus-is}
use Rattle.tag_text.proofs.decimal.is_minus.Goals as goal

pub returns-then-x : goal.returns-then-x
returns-then-x c = minus_is c.args.x c.args.n _ c.if-x.true refl

pub returns : goal.returns
returns c = plus-is c.args.x c.args.n c.if-x.false
