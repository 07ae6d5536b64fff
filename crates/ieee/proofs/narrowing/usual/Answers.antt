-- `ieee::narrowing::usual` meets its contract: its two tests are those of `usual64`. Assumes nothing.
use Rattle.ieee.proofs.Usual.{usual-small, usual-else}
use Rattle.ieee.proofs.narrowing.usual.Goals as goal

pub returns-then-x : goal.returns-then-x
returns-then-x c = usual-small _ c.if-x.true

pub returns : goal.returns
returns c = usual-else _ c.if-x.false
