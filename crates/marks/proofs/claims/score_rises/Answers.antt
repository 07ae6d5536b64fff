-- More agreement is a greater score, by `score-rises`. Assumes nothing.
use Rattle.marks.proofs.Rises.{score-rises}
use Rattle.marks.proofs.claims.score_rises.Goals as goal

pub returns : goal.returns
returns c = record { rises = score-rises }
