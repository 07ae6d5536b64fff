-- `lens::bow::add_row` meets its contract, which is its own text. Assumes nothing.
use Rattle.std.proofs.Common.{refl}
use Rattle.lens.specs.Bow.{row_added}
use Rattle.lens.proofs.bow.add_row.Goals as goal

pub returns : goal.returns
unfolding row_added
returns c = refl
