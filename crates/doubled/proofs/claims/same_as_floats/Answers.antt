-- `doubled::claims::same_as_floats`: the theorem is `same-as-floats`. Assumes nothing.
use Rattle.doubled.proofs.Exact.{same-as-floats}
use Rattle.doubled.proofs.claims.same_as_floats.Goals as goal

pub returns : goal.returns
returns c = same-as-floats
