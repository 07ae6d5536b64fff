-- `search::samples::is_outside` meets its contract: its four tests are those of the definition. Assumes nothing.
use Rattle.std.proofs.Common.{refl, arith}
use Rattle.fit.proofs.Bands.{small_float}
use Rattle.search.specs.Samples.{along, outside}
use Rattle.search.proofs.samples.is_outside.Goals as goal

pub int_to_float-left : goal.int_to_float-left
int_to_float-left c = small_float c.args.w (omega (arith, c.requires))

pub int_to_float-above : goal.int_to_float-above
int_to_float-above c = small_float c.args.h (omega (arith, c.requires))

pub returns : goal.returns
unfolding outside along
returns c = refl
