-- `transform::bend` meets its contract: the definition itself. Assumes nothing.
use Rattle.transform.specs.Mapping.{bent}
use Rattle.std.proofs.Common.{refl}
use Rattle.transform.proofs.bend.Goals as goal

pub returns : goal.returns
unfolding bent
returns c = refl
