-- Theorems on ring marks: statements only. `PosesMoved` is the part of demand 3 on marks, by rule 40.
use Rattle.std.specs.Prelude.{◌≡◌, Bool, true, List, ℕ, ◌<◌, ◌≤◌, Float, length, get_or}
use Rattle.std.specs.Float.Ieee.{lt}
use Rattle.lcr_core.specs.Version.{IsVersion, positions_of}
use Rattle.marks.specs.Pose.{MarkMove, followed, MarksMoved, mark_to, corner_to, reversed_to, pose_at, agreement, counts_of}
use Rattle.marks.specs.Correlate.{score, best_pose, by_scores, scored}
use Rattle.marks.specs.Split.{split, settled_split}

-- Demand 3 on marks: for every version, every list of as many marks, every shift by whole quarters, the reversal, and any of these followed
-- by another.
pub record PosesMoved : Type 0 where
  -- "the pose so moved": it is one of the eight again
  pub pose : (g : MarkMove) (r : ℕ) → r < 4 → corner_to g r < 4
  -- "has the old map followed by that"
  pub maps : (v : ℕ) → IsVersion v → (g : MarkMove) (r : ℕ) (reversed : Bool) → r < 4 → (p : ℕ) → p < positions_of v
      → pose_at v (corner_to g r) (reversed_to g reversed) p ≡ mark_to v g (pose_at v r reversed p)
  -- "gives the same eight agreement counts at the poses so moved"
  pub counts : (v : ℕ) → IsVersion v → (g : MarkMove) (old new : List Bool) → length old ≡ positions_of v → MarksMoved v g old new
      → (r : ℕ) (reversed : Bool) → r < 4
      → agreement v new (corner_to g r) (reversed_to g reversed) ≡ agreement v old r reversed
  -- Every list of marks can be so moved, in one way only
  pub moved : (v : ℕ) → IsVersion v → (g : MarkMove) (old : List Bool) → length old ≡ positions_of v
      → (new : List Bool) × MarksMoved v g old new
  pub only : (v : ℕ) → IsVersion v → (g : MarkMove) (old new other : List Bool) → length old ≡ positions_of v
      → MarksMoved v g old new → MarksMoved v g old other → new ≡ other
  -- One move after another is the first followed by the second
  pub steps : (v : ℕ) → IsVersion v → (g h : MarkMove) (old mid new : List Bool)
      → MarksMoved v g old mid → MarksMoved v h mid new → MarksMoved v (followed g h) old new

-- Within one version more agreement is a greater score.
pub record ScoreRises : Type 0 where
  pub rises : (v : ℕ) → IsVersion v → (a b : ℕ) → a < b → b ≤ positions_of v → lt (score v a) (score v b) ≡ true

-- The first greatest of the eight counts, with its score, is what the Rust's search by scores ends with.
pub record BestByScores : Type 0 where
  pub found : (v : ℕ) → IsVersion v → (marks : List Bool)
      → by_scores v (counts_of v marks) 8
      ≡ scored (score v (get_or (counts_of v marks) (best_pose (counts_of v marks)) 0)) (best_pose (counts_of v marks))

-- "Every answer is the one that four rounds would give": the split of the round at which a window has settled is that of round 4, for every
-- list of numbers.
pub record SplitSettles : Type 0 where
  pub stops : (w : List Float) → (settled_split w).split ≡ split w
