-- The split of the settled round is that of four rounds, by `stops`. Assumes nothing.
use Rattle.marks.proofs.Settling.{stops}
use Rattle.marks.proofs.claims.split_settles.Goals as goal

pub returns : goal.returns
returns c = record { stops = stops }
