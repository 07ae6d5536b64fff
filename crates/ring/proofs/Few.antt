-- A trace of an attempt has at most 64 scores: step-held, steps-held of a search; quad-few, attempt-few of traces.
-- Assumes nothing.
use mathlib.Core.Path.{◌≡◌, refl}
use mathlib.Core.Bool.{Bool, true, false, cond}
use mathlib.Core.List.{List}
use Prim.Native.Nat.{ℕ, zero, suc, ◌+◌, ◌≤◌}
use native.Mathlib.Omega.{arith}
use lib.Dec.{ltb}
use lib.Ieee.{Float, lt, eq}
use lib.ListN.{length}
use borrow.Author.Tests.{ltb-false}
use Rattle.ieee.specs.Constants.{0f}
use Rattle.lcr_core.specs.Version.{side_of}
use Rattle.hull.specs.Points.{many}
use Rattle.hull.specs.Hull.{hull_of}
use Rattle.hull.specs.declared.points.Quad.{Quad}
use Rattle.std.specs.Prelude.{Option, Some, None}
use Rattle.fit.specs.F32.{3f}
use Rattle.fit.specs.Corner.{refined_of, same_of}
use Rattle.fit.specs.Consensus.{edge_quad}
use Rattle.lens.specs.Straight.{straight_of}
use Rattle.lens.specs.Estimate.{hull_quad, lens_of}
use Rattle.lens.specs.declared.straight.Lens.{Lens}
use Rattle.search.specs.Geometry.{transform_of}
use Rattle.search.specs.Versions.{none_tried, too_small, ended_of, step_of, steps_on, search_of, ScoreRoom}
use Rattle.search.specs.Versions as versions
use Rattle.search.specs.declared.versions.Search.{Search}
use Rattle.search.specs.declared.versions.Goal.{Goal}
use Rattle.search.proofs.Searches.{start-held, ended_held, scored-held}
use Rattle.ring.specs.Trace.{is_fixed, trace_by, goal_of, quad_trace, top_of, better_of, first_of, both_quads, short_trace, found_of}
use Rattle.ring.specs.Trace.{under_lens, picture_middle, lens_trace, attempt_of}
use Rattle.ring.specs.declared.quads.Trace.{Trace}

-- A trace has at most 64 scores.
abbrev pub Few : Trace → Type 0
Few t = t.scores.many ≤ 64

-- ---- a search
module _ (gray : List ℕ) (w h : ℕ) (g : Goal) (top : g.most ≤ 64) where
  step-held : (s : Search) → ScoreRoom s → ScoreRoom (step_of gray w h g s)
  unfolding step_of
  step-held s q = go s.ended (ltb g.most s.next) refl (too_small g.span s.next)
    where
      go : (a b : Bool) → ltb g.most s.next ≡ b → (c : Bool)
          → ScoreRoom (cond a s (cond b (ended_of s) (cond c (ended_of s) (versions.next_tried gray w h g s))))
      go true b e c = q
      go false true e c = ended_held q
      go false false e true = ended_held q
      go false false e false =
          let l : s.next ≤ g.most = ltb-false g.most s.next e in
          scored-held gray w h (transform_of g.quad (side_of s.next) g.lens) (omega arith) q

  steps-held : (d k : ℕ) (s : Search) → ScoreRoom s → ScoreRoom (steps_on gray w h g d k s)
  unfolding steps_on
  steps-held zero k s q = q
  steps-held (suc d) k s q = steps-held d (k + 1) (step_of gray w h g s) (step-held s q)

  pub search-few : (search_of gray w h g).scores.many ≤ 64
  search-few = (steps-held 65 0 none_tried start-held).few

-- ---- traces
pub cond-few : (b : Bool) (t u : Trace) → Few t → Few u → Few (cond b t u)
cond-few true t u a b = a
cond-few false t u a b = b

pub better-few : (t u : Trace) → Few t → Few u → Few (better_of t u)
unfolding better_of
better-few t u a b =
    cond-few (is_fixed u.fix) u (cond (lt (top_of t) (top_of u)) u t) b (cond-few (lt (top_of t) (top_of u)) u t b a)

pub first-few : (t u : Trace) → Few t → Few u → Few (first_of t u)
unfolding first_of
first-few t u a b = cond-few (is_fixed t.fix) t (better_of t u) a (better-few t u a b)

pub short-few : (hull : ℕ) → Few (short_trace hull)
unfolding short_trace
short-few hull = start-held.few

module _ (gray : List ℕ) (w h most : ℕ) (top : most ≤ 64) where
  quad-few : (q : Quad) (l : Lens) (hull : ℕ) → Few (quad_trace gray w h q l hull most)
  unfolding quad_trace trace_by
  quad-few q l hull = search-few gray w h (goal_of q l most) top

  tried-few : (c : Option Quad) (r : Quad) (l : Lens) (hull : ℕ) → Few (both_quads gray w h c r l hull most)
  unfolding both_quads
  tried-few (Some e) r l hull =
      cond-few (same_of e r 3f) (quad_trace gray w h r l hull most)
      (first_of (quad_trace gray w h e l hull most) (quad_trace gray w h r l hull most))
      (quad-few r l hull) (first-few _ _ (quad-few e l hull) (quad-few r l hull))
  tried-few None r l hull = quad-few r l hull

  found-few : (s : List Float) (hull : ℕ) (c : Option Quad) (l : Lens) → Few (found_of gray w h s hull c l most)
  unfolding found_of
  found-few s hull (Some q) l = tried-few (edge_quad s q) (refined_of s q) l hull
  found-few s hull None l = short-few hull

  pub attempt-few : (s : List Float) → Few (attempt_of gray w h s most)
  unfolding attempt_of lens_trace
  attempt-few s =
      let l = lens_of s (hull_quad s) (picture_middle w h) in
      cond-few (eq l.k 0f) (under_lens gray w h s l most) (under_lens gray w h (straight_of l s) l most)
      (found-few s (length (hull_of s (many s))) (hull_quad s) l)
      (found-few (straight_of l s) (length (hull_of (straight_of l s) (many (straight_of l s)))) (hull_quad (straight_of l s)) l)
