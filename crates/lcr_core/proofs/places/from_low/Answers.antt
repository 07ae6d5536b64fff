-- `lcr_core::places::from_low` meets its contract. Assumes nothing.
use Rattle.lcr_core.proofs.Signed.{low_fits, low_read}
use Rattle.lcr_core.proofs.places.from_low.Goals as goal

pub overflow_sub-result : goal.overflow_sub-result
overflow_sub-result c = low_fits c.args.k c.requires

pub returns : goal.returns
returns c = low_read c.args.k c.requires
