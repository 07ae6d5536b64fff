-- `fit::consensus::pick` meets its contract. Assumes nothing.
use mathlib.Core.Path.{refl}
use native.Mathlib.Nat.{mod-lt}
use Rattle.fit.proofs.consensus.pick.Goals as goal

pub returns : goal.returns
returns c = (refl, mod-lt _ c.requires)
