-- The search over versions, one version a step, as ring.rs has it in `correlate_quad`: a version without a transform is skipped, and only
-- a pitch under 2 ends the list before the greatest version. Definitions only. Assumes nothing.
use Rattle.std.specs.Prelude.{ℕ, zero, suc, ◌+◌, ◌≤◌, Bool, true, false, cond, List, [], ◌∷◌, from_bits, nat_lt, slice_set, Float, Option, Some, None}
use Rattle.std.specs.Float.{binary32}
use Rattle.std.specs.Float.Ieee.{lt}
use Rattle.lcr_core.specs.Version.{side_of}
use Rattle.transform.specs.declared.Transform.{Transform}
use Rattle.marks.specs.Classify.{lights}
use Rattle.marks.specs.Doors.{marked_pose}
use Rattle.marks.specs.declared.correlate.Pose.{Pose}
use Rattle.fit.specs.F32.{◌⊕◌, ◌⊘◌, whole_float}
use Rattle.ieee.specs.Constants.{0f, 2f}
use Rattle.search.specs.Geometry.{transform_of}
use Rattle.search.specs.Lumas.{lumas_of}
use Rattle.search.specs.declared.versions.Score.{Score}
use Rattle.search.specs.declared.versions.Scores.{Scores}
use Rattle.search.specs.declared.versions.Search.{Search}
use Rattle.search.specs.declared.versions.Goal.{Goal}

-- ---- one version read
-- What stands in places without a score.
abbrev pub no_score : Score
no_score = record { version = 0; agreement = 0f; corner = 0; mirrored = false }

-- A pose as the score of a version.
unfoldable pub score_by : ℕ → Pose → Score
score_by version best =
    record { version = version; agreement = best.score; corner = best.corner; mirrored = best.reversed }

-- The best pose of lumas: of the marks that they are light or dark by.
unfoldable pub pose_of : ℕ → List Float → Pose
pose_of version lumas = marked_pose version (lights lumas)

-- The score of a version under a transform.
unfoldable pub read_of : List ℕ → ℕ → ℕ → Transform → ℕ → Score
read_of gray w h t version = score_by version (pose_of version (lumas_of gray w h t version))

-- ---- the search
-- n times the same.
unfoldable pub repeated : {A : Type 0} → ℕ → A → List A
repeated zero a = []
repeated (suc n) a = a ∷ repeated n a

-- A search with no version tried.
unfoldable pub none_tried : Search
none_tried = record { next = 1; ended = false; scores = record { many = 0; list = repeated 64 no_score } }

-- One score more.
abbrev pub push_of : Scores → Score → Scores
push_of s x = record { many = s.many + 1; list = slice_set s.list s.many x }

-- 8, which f32 holds exactly.
abbrev pub 8f : Float
8f = from_bits binary32 0x4100_0000

-- The pitch, span / (side + 8), is under 2; a NaN is not.
unfoldable pub too_small : Float → ℕ → Bool
too_small span version = lt (span ⊘ (whole_float (side_of version) ⊕ 8f)) 2f

-- A search ended.
abbrev pub ended_of : Search → Search
ended_of s = record { next = s.next; ended = true; scores = s.scores }

-- A version with a transform is scored; one without is skipped.
unfoldable pub scored_of : List ℕ → ℕ → ℕ → Search → Option Transform → Search
scored_of gray w h s (Some t) =
    record { next = s.next + 1; ended = false; scores = push_of s.scores (read_of gray w h t s.next) }
scored_of gray w h s None = record { next = s.next + 1; ended = false; scores = s.scores }

-- The next version tried.
abbrev pub next_tried : List ℕ → ℕ → ℕ → Goal → Search → Search
next_tried gray w h g s = scored_of gray w h s (transform_of g.quad (side_of s.next) g.lens)

-- One step: an ended search stays; past the greatest version or under 2 pixels a module it ends; else one version is tried.
unfoldable pub step_of : List ℕ → ℕ → ℕ → Goal → Search → Search
step_of gray w h g s =
    cond s.ended s
    (cond (nat_lt g.most s.next) (ended_of s)
    (cond (too_small g.span s.next) (ended_of s)
    (next_tried gray w h g s)))

-- d steps.
unfoldable pub steps_on : List ℕ → ℕ → ℕ → Goal → ℕ → ℕ → Search → Search
steps_on gray w h g zero k s = s
steps_on gray w h g (suc d) k s = steps_on gray w h g d (k + 1) (step_of gray w h g s)

-- The search run to its end: 65 steps, since each step but the last tries one of 64 versions.
abbrev pub search_of : List ℕ → ℕ → ℕ → Goal → Search
search_of gray w h g = steps_on gray w h g 65 0 none_tried

-- What holds of a search between steps: there is room for the score of the next version.
pub record ScoreRoom (s : Search) : Type 0 where
  pub some : 1 ≤ s.next
  pub few : s.scores.many ≤ 64
  pub room : s.scores.many + 1 ≤ s.next
