-- Moved marks agree at the moved poses as often, by `poses-moved`. Assumes nothing.
use Rattle.marks.proofs.PosesMoved.{poses-moved}
use Rattle.marks.proofs.claims.poses_moved.Goals as goal

pub returns : goal.returns
returns c = poses-moved
