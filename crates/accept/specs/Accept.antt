-- Which score is accepted, and the quad in the order that its corner and direction say, as ring.rs has them in `accept`. Definitions only.
-- Assumes nothing.
use Rattle.std.specs.Prelude.{ℕ, zero, suc, ◌+◌, ◌-◌, ◌%◌, Bool, false, cond, ◌&&◌, ◌||◌, List, eqb, Float, get_or, Option, Some, None}
use Rattle.std.specs.Float.{nan, binary32}
use Rattle.std.specs.Float.Ieee.{le, of_bits}
use Rattle.ieee.specs.Ops.{before, max}
use Rattle.ieee.specs.Constants.{0f, 0·08, 0·2, 0·85}
use Rattle.transform.specs.declared.Transform.{Transform}
use Rattle.lcr_core.specs.Version.{side_of}
use Rattle.hull.specs.declared.points.Point.{Point}
use Rattle.hull.specs.declared.points.Quad.{Quad}
use Rattle.fit.specs.F32.{◌⊖◌}
use Rattle.lens.specs.declared.straight.Lens.{Lens}
use Rattle.search.specs.Geometry.{transform_of}
use Rattle.search.specs.declared.versions.Score.{Score}
use Rattle.search.specs.declared.versions.Scores.{Scores}
use Rattle.accept.specs.declared.Fix.{Fix}

-- ---- the best score and the runner-up
-- What stands past the end of a list of scores.
abbrev pub past_score : Score
past_score = record { version = 0; agreement = nan; corner = 0; mirrored = false }

-- The score at a place, and its agreement.
abbrev pub place_at : List Score → ℕ → Score
place_at list k = get_or list k past_score

abbrev pub score_at : List Score → ℕ → Float
score_at list k = (place_at list k).agreement

-- The later of two places, unless its score comes before the other's in total order.
unfoldable pub later_of : List Score → ℕ → ℕ → ℕ
later_of list best k = cond (before (score_at list k) (score_at list best)) best k

-- The later of a place and of d places from k on, one after the other.
unfoldable pub best_on : List Score → ℕ → ℕ → ℕ → ℕ
best_on list zero k b = b
best_on list (suc d) k b = best_on list d (k + 1) (later_of list b k)

-- The last place of the greatest score.
abbrev pub best_place : Scores → ℕ
best_place s = best_on s.list (s.many - 1) 1 0

-- The greater of a number and the score at k, unless k is the best place.
unfoldable pub other_of : List Score → ℕ → ℕ → Float → Float
other_of list best k top = cond (eqb k best) top (max top (score_at list k))

-- The same with d places from k on.
unfoldable pub runner_on : List Score → ℕ → ℕ → ℕ → Float → Float
runner_on list best zero k top = top
runner_on list best (suc d) k top = runner_on list best d (k + 1) (other_of list best k top)

-- The greatest score elsewhere, at least 0.
abbrev pub runner_of : Scores → ℕ → Float
runner_of s best = runner_on s.list best s.many 0 0f

-- ---- what passes
-- 0.75, which f32 holds exactly.
abbrev pub 0·75 : Float
0·75 = of_bits binary32 0x3f40_0000

-- A score of at least so much with at least such a lead.
abbrev pub at_least : Float → Float → Float → Float → Bool
at_least agreement least lead ahead = le least agreement && le ahead lead

-- At least 0.85 with a lead of 0.08; relaxed, also 0.75 with a lead of 0.2.
unfoldable pub passes_of : Float → Float → Bool → Bool
passes_of agreement lead relaxed =
    at_least agreement 0·85 lead 0·08 || (relaxed && at_least agreement 0·75 lead 0·2)

-- ---- the corners in order
-- Corner r of a quad.
unfoldable pub corner_at : Quad → ℕ → Point
corner_at q r = cond (eqb r 0) q.a (cond (eqb r 1) q.b (cond (eqb r 2) q.c q.d))

-- The quad from corner r on: forwards, or backwards where mirrored.
unfoldable pub turned_of : Quad → ℕ → Bool → Quad
turned_of q r mirrored =
    cond mirrored
    record { a = corner_at q r; b = corner_at q ((r + 3) % 4); c = corner_at q ((r + 2) % 4); d = corner_at q ((r + 1) % 4) }
    record { a = corner_at q r; b = corner_at q ((r + 1) % 4); c = corner_at q ((r + 2) % 4); d = corner_at q ((r + 3) % 4) }

-- ---- the fix
-- A score with a transform as a fix; none without one.
unfoldable pub fixed_by : Score → Option Transform → Option Fix
fixed_by s (Some t) =
    Some record { version = s.version; agreement = s.agreement; corner = s.corner; mirrored = s.mirrored; map = t }
fixed_by s None = None

-- A score as a fix: the transform onto the corners in its order. Its corner is 0 to 3.
unfoldable pub fix_of : Quad → Score → Lens → Option Fix
fix_of q s l = fixed_by s (transform_of (turned_of q (s.corner % 4) s.mirrored) (side_of s.version) l)

-- The score at a place as a fix, where it passes with its lead over the greatest score elsewhere.
unfoldable pub chosen_of : Quad → Scores → ℕ → Lens → Bool → Option Fix
chosen_of q s best l relaxed =
    let top = place_at s.list best in
    cond (passes_of top.agreement (top.agreement ⊖ runner_of s best) relaxed) (fix_of q top l) None

-- The best score as a fix, where it passes; none without a score.
unfoldable pub accept_of : Quad → Scores → Lens → Bool → Option Fix
accept_of q s l relaxed = cond (eqb s.many 0) None (chosen_of q s (best_place s) l relaxed)
