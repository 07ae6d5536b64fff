-- What an attempt looks at and finds, by rules 33 to 36 and ring.rs in `correlate_quad` and `attempt`. Definitions only.
-- Assumes nothing.
use Rattle.std.specs.Prelude.{ℕ, Bool, true, false, cond, List, Float, length, Option, Some, None, is_some}
use Rattle.std.specs.Float.{binary32}
use Rattle.std.specs.Float.Ieee.{lt, eq, of_bits}
use Rattle.ieee.specs.Root.{sqrt}
use Rattle.hull.specs.Points.{many}
use Rattle.hull.specs.Hull.{hull_of}
use Rattle.hull.specs.declared.points.Point.{Point}
use Rattle.hull.specs.declared.points.Quad.{Quad}
use Rattle.fit.specs.F32.{◌⊕◌, ◌⊘◌, whole_float, 3f}
use Rattle.ieee.specs.Constants.{0f, 2f}
use Rattle.fit.specs.Corner.{d2_of, refined_of, same_of}
use Rattle.fit.specs.Consensus.{edge_quad}
use Rattle.fit.specs.Line.{point_of}
use Rattle.lens.specs.Straight.{straight_of}
use Rattle.lens.specs.Estimate.{hull_quad, lens_of}
use Rattle.lens.specs.declared.straight.Lens.{Lens}
use Rattle.search.specs.Versions.{search_of, none_tried}
use Rattle.search.specs.declared.versions.Scores.{Scores}
use Rattle.search.specs.declared.versions.Goal.{Goal}
use Rattle.accept.specs.Accept.{accept_of, runner_of}
use Rattle.accept.specs.declared.Fix.{Fix}
use Rattle.ring.specs.declared.quads.Trace.{Trace}

-- ---- one quad
-- The root of 2 as an f32.
abbrev pub root2 : Float
root2 = of_bits binary32 0x3fb5_04f3

-- The outer side of a quad: its mean diagonal over the root of 2.
unfoldable pub span_of : Quad → Float
span_of q =
    (sqrt binary32 (d2_of q.a.x q.a.y q.c) ⊕ sqrt binary32 (d2_of q.b.x q.b.y q.d)) ⊘ 2f ⊘ root2

-- There is a fix.
unfoldable pub is_fixed : Option Fix → Bool
is_fixed f = is_some f

-- The fix under the relaxed rule, looked for only where there is none under the ordinary one.
unfoldable pub fallback_of : Option Fix → Quad → Scores → Lens → Option Fix
fallback_of (Some f) q s l = None
fallback_of None q s l = accept_of q s l true

-- The trace of a quad by its scores.
unfoldable pub trace_by : Quad → Lens → ℕ → Scores → Trace
trace_by q l hull s = record {
  hull = hull;
  quad = Some q;
  scores = s;
  fix = accept_of q s l false;
  fallback = fallback_of (accept_of q s l false) q s l;
}

-- What is searched for with a quad.
abbrev pub goal_of : Quad → Lens → ℕ → Goal
goal_of q l most = record { quad = q; lens = l; most = most; span = span_of q }

-- The trace of a quad: all versions tried.
unfoldable pub quad_trace : List ℕ → ℕ → ℕ → Quad → Lens → ℕ → ℕ → Trace
quad_trace gray w h q l hull most = trace_by q l hull (search_of gray w h (goal_of q l most)).scores

-- ---- two quads
-- The greatest score of a trace, at least 0: place 64 is no score's, so none is left out.
abbrev pub top_of : Trace → Float
top_of t = runner_of t.scores 64

-- Of two traces, the first without a fix: the second where it has one, or its greatest score is greater.
unfoldable pub better_of : Trace → Trace → Trace
better_of t u = cond (is_fixed u.fix) u (cond (lt (top_of t) (top_of u)) u t)

-- The first trace where it has a fix, else the better of both.
unfoldable pub first_of : Trace → Trace → Trace
first_of t u = cond (is_fixed t.fix) t (better_of t u)

-- The edge quad is tried first, and only where it differs from the refined one by more than 3 at some corner, in x or y.
unfoldable pub both_quads : List ℕ → ℕ → ℕ → Option Quad → Quad → Lens → ℕ → ℕ → Trace
both_quads gray w h (Some e) r l hull most =
    cond (same_of e r 3f) (quad_trace gray w h r l hull most)
    (first_of (quad_trace gray w h e l hull most) (quad_trace gray w h r l hull most))
both_quads gray w h None r l hull most = quad_trace gray w h r l hull most

-- ---- the attempt
-- The trace without a quad.
unfoldable pub short_trace : ℕ → Trace
short_trace hull = record { hull = hull; quad = None; scores = none_tried.scores; fix = None; fallback = None }

-- The trace of points with their hull's length and quad: without a quad it ends there.
unfoldable pub found_of : List ℕ → ℕ → ℕ → List Float → ℕ → Option Quad → Lens → ℕ → Trace
found_of gray w h s hull (Some q) l most = both_quads gray w h (edge_quad s q) (refined_of s q) l hull most
found_of gray w h s hull None l most = short_trace hull

-- The trace of points under a lens.
abbrev pub under_lens : List ℕ → ℕ → ℕ → List Float → Lens → ℕ → Trace
under_lens gray w h s l most = found_of gray w h s (length (hull_of s (many s))) (hull_quad s) l most

-- The picture's middle.
unfoldable pub picture_middle : ℕ → ℕ → Point
picture_middle w h = point_of (whole_float w ⊘ 2f) (whole_float h ⊘ 2f)

-- The trace by the lens: of the points as they are where its coefficient is 0, else straightened.
unfoldable pub lens_trace : List ℕ → ℕ → ℕ → List Float → Lens → ℕ → Trace
lens_trace gray w h s l most =
    cond (eq l.k 0f) (under_lens gray w h s l most) (under_lens gray w h (straight_of l s) l most)

-- The trace of a list of points.
unfoldable pub attempt_of : List ℕ → ℕ → ℕ → List Float → ℕ → Trace
attempt_of gray w h s most = lens_trace gray w h s (lens_of s (hull_quad s) (picture_middle w h)) most
