-- `lcr_core::border::bit_of` meets its contract. Assumes nothing.
use Rattle.lcr_core.proofs.Rows.{mark-bit}
use Rattle.lcr_core.proofs.border.bit_of.Goals as goal

pub returns : goal.returns
returns c = mark-bit c.args.byte c.args.k
