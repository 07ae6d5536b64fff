-- `mean_of` is the sum of a window over its length. Assumes nothing.
use mathlib.Core.Path.{refl}
use Rattle.marks.proofs.Splits.{mean-is}
use Rattle.marks.proofs.split.mean_of.Goals as goal

pub returns : goal.returns
returns c = mean-is c.args.w.now c.total.result _ refl c.total.ensures
