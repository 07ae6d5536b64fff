-- `fit::consensus::under_cut` meets its contract. Assumes nothing.
use mathlib.Core.Path.{refl}
use lib.Ieee.{lt}
use Rattle.fit.proofs.Bands.{then-and, stop-and}
use Rattle.fit.proofs.consensus.under_cut.Goals as goal

pub returns-then-d : goal.returns-then-d
returns-then-d c = then-and refl c.if-d.true refl

pub returns-else-d : goal.returns-else-d
returns-else-d c = stop-and (lt c.args.d c.args.cut) refl c.if-d.false
