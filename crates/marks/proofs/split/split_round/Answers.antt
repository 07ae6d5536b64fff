-- `split_round` puts the sides and the threshold between them together. Assumes nothing.
use Rattle.marks.proofs.Splits.{round_is}
use Rattle.marks.proofs.split.split_round.Goals as goal

pub returns : goal.returns
returns c =
    let a = c.args in
    round_is a.w.now a.t c.between_sides.result c.sides_of.result c.sides_of.ensures
    c.between_sides.ensures
