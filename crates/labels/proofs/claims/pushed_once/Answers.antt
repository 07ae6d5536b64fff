-- `labels::claims::pushed_once` meets its contract, by `picture-pushes`. Assumes nothing.
use Rattle.labels.specs.Claims.{PushedOnce}
use Rattle.labels.proofs.Pushes.{picture-pushes}
use Rattle.labels.proofs.claims.pushed_once.Goals as goal

pub returns : goal.returns
unfolding PushedOnce
returns c = picture-pushes
