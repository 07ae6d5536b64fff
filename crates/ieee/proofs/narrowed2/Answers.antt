-- `ieee::narrowed2` meets its contract: both ways give the nearest. Assumes nothing.
use Rattle.std.proofs.Common.{sym, ◌∙◌}
use Rattle.ieee.proofs.narrowed2.Goals as goal

pub near-requires : goal.near-requires
near-requires c = sym c.usual.ensures ∙ c.if-usual.true

pub near-requires-then-usual-2 : goal.near-requires-then-usual-2
near-requires-then-usual-2 c = sym c.usual-then-usual.ensures ∙ c.if-usual-2.true
