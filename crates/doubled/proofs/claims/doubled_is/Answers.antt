-- `doubled::claims::doubled_is` meets its contract. Assumes nothing.
use Rattle.doubled.proofs.Twices.{doubled-is}
use Rattle.doubled.proofs.claims.doubled_is.Goals as goal

pub returns : goal.returns
returns c = doubled-is
