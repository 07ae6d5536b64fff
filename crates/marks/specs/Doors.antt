-- Answers of the doors on marks, with their refusals in order: 8, a version outside 1..64; 11, marks or lumas not
-- as many as positions; of one window 9, then 10. Definitions only. Assumes nothing.
use Rattle.std.specs.Prelude.{Bool, ◌&&◌, List, ℕ, ◌%◌, leb, eqb, Float, length, get_or}
use Rattle.std.specs.List.{list_all}
use Rattle.lcr_core.specs.Version.{is_version, positions_of}
use Rattle.laws.specs.Check.{or_refuse}
use Rattle.laws.specs.Said.{Said, refuse, none, give}
use Rattle.marks.specs.Pose.{counts_of}
use Rattle.marks.specs.Correlate.{best_pose, score}
use Rattle.ieee.specs.Ops.{finite}
use Rattle.marks.specs.Classify.{lights}
use Rattle.marks.specs.Split.{settled_split}
use Rattle.marks.specs.declared.correlate.Pose.{Pose}
use Rattle.marks.specs.declared.correlate.Correlated.{Correlated}
use Rattle.marks.specs.declared.split.Settled.{Settled}

-- Score, corner and reversal of the first greatest of eight counts: places 0 to 3 are corners forward, 4 to 7 reversed.
abbrev pub best_answer : ℕ → List ℕ → Pose
best_answer v counts = record {
  score = score v (get_or counts (best_pose counts) 0);
  corner = best_pose counts % 4;
  reversed = leb 4 (best_pose counts);
}

-- That of some marks.
abbrev pub marked_pose : ℕ → List Bool → Pose
marked_pose v s = best_answer v (counts_of v s)

-- The same with the eight counts.
abbrev pub pose_and_counts : ℕ → List Bool → Correlated
pose_and_counts v s = record { best = marked_pose v s; counts = counts_of v s }

-- What `correlate` answers.
abbrev pub correlate_answer : ℕ → List Bool → Said Correlated
correlate_answer v s =
    or_refuse (is_version v) (refuse 8)
    (or_refuse (eqb (length s) (positions_of v)) (refuse 11)
    (give (pose_and_counts v s)))

-- The checks of `classify`, on the version and the numbers of lumas and marks.
abbrev pub classify_checks : ℕ → ℕ → ℕ → Said (Unit {0})
classify_checks v lumas marks =
    or_refuse (is_version v) (refuse 8)
    (or_refuse (eqb lumas (positions_of v)) (refuse 11)
    (or_refuse (eqb marks (positions_of v)) (refuse 11)
    (give tt)))

-- What `classify` answers: the marks that it writes are all that it gives.
abbrev pub classify_answer : ℕ → List Float → List Bool → Said (Unit {0})
classify_answer v lumas marks = classify_checks v (length lumas) (length marks)

-- The lent marks after the call: every one written, or as before on refusal.
abbrev pub marks_after : Said (Unit {0}) → List Float → List Bool → List Bool
marks_after (give u) s old = lights s
marks_after none s old = old
marks_after (refuse n) s old = old

-- ---- one window
-- No number of a list is a NaN or infinite.
abbrev pub all_finite : List Float → Bool
all_finite w = list_all finite w

-- What `split_window` answers: 9, not 4 to 33 values; 10, a NaN or an infinity among them.
abbrev pub split_answer : List Float → Said Settled
split_answer w =
    or_refuse (leb 4 (length w) && leb (length w) 33) (refuse 9)
    (or_refuse (all_finite w) (refuse 10)
    (give (settled_split w)))
