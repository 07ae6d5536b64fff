-- `noise::claims::add_up`: the claim holds. Assumes nothing.
use Rattle.noise.proofs.Answers.{add-up}
use Rattle.noise.proofs.claims.add_up.Goals as goal

pub returns : goal.returns
returns c = add-up
