-- `noise::claims::row_points`: the claim holds. Assumes nothing.
use Rattle.noise.proofs.Answers.{row-points}
use Rattle.noise.proofs.claims.row_points.Goals as goal

pub returns : goal.returns
returns c = row-points
