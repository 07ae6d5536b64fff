-- `shadow::claims::not_ten`: the claim holds. Assumes nothing.
use Rattle.shadow.proofs.Pair.{not-ten}
use Rattle.shadow.proofs.claims.not_ten.Goals as goal

pub returns : goal.returns
returns c = not-ten
