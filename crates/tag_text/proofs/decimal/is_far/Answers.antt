-- `tag_text::decimal::is_far` meets its contract. Assumes nothing.
use Rattle.tag_text.specs.Decimal.{most, is_far}
use lib.Ieee.{Float, le}
use Rattle.std.proofs.Common.{not, ap}
use Rattle.tag_text.proofs.decimal.is_far.Goals as goal

pub returns : goal.returns
unfolding is_far
returns c = ap (λ (y : Float). not (le y most)) c.abs32.ensures
