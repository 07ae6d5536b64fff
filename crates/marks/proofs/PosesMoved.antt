-- The claims on ring marks, put together from their laws.
--     poses-moved  moved marks agree at the moved poses as often
-- Assumes nothing.
use Rattle.marks.specs.Claims.{PosesMoved}
use Rattle.marks.proofs.Poses.{corner-lt, pose-maps, counts-moved}
use Rattle.marks.proofs.MarkMoves.{marks-moved, marks-only, marks-steps}

pub poses-moved : PosesMoved
poses-moved =
    record {
      pose = corner-lt;
      maps = λ v is g r reversed few p below. pose-maps v g r reversed few p below;
      counts = λ v is g old new many m r reversed few. counts-moved v g old new m r reversed few;
      moved = λ v is g old many. marks-moved v g old many;
      only = λ v is g old new other many m o. marks-only v g old new other many m o;
      steps = λ v is g h old mid new first second. marks-steps v g h old mid new first second;
    }
