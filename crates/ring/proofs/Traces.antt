-- The ways of a trace. Assumes nothing.
--   fallback-none, fallback-some       no fallback beside a fix, and one looked for without
--   trace-is, trace-few, quad-trace    the trace of a quad by its scores, and by its search
--   better-fix, -more, -less           of two traces the second by its fix, by its score, and the first
--   tried-one, -same, -first, -both    the refined quad alone, or the edge quad first
--   short-is, found_none, found_some   the trace without a quad, and with one
--   under-is, lens_same, lens-straight, attempt-is   the points as they are or straightened, and the whole
use mathlib.Core.Path.{◌≡◌, refl, sym, ap, ◌∙◌, subst}
use mathlib.Core.Bool.{Bool, true, false, cond}
use mathlib.Core.List.{List}
use Prim.Native.Nat.{ℕ, ◌*◌, ◌≤◌}
use lib.Ieee.{Float, lt, eq}
use lib.ListN.{length, take}
use Rattle.ieee.specs.Constants.{0f}
use Rattle.hull.specs.Points.{many}
use Rattle.hull.specs.Hull.{hull_of}
use Rattle.hull.specs.declared.points.Point.{Point}
use Rattle.hull.specs.declared.points.Quad.{Quad}
use Rattle.std.specs.Prelude.{Option, Some, None}
use Rattle.fit.specs.F32.{3f}
use Rattle.fit.specs.Corner.{refined_of, same_of}
use Rattle.fit.specs.Consensus.{edge_quad}
use Rattle.fit.specs.Select.{KeptIn}
use Rattle.fit.proofs.Selects.{kept-front}
use Rattle.lens.specs.Straight.{straight_of}
use Rattle.lens.specs.Estimate.{hull_quad, lens_of}
use Rattle.lens.specs.declared.straight.Lens.{Lens}
use Rattle.search.specs.Versions.{search_of, none_tried}
use Rattle.search.specs.declared.versions.Scores.{Scores}
use Rattle.search.specs.declared.versions.Search.{Search}
use Rattle.accept.specs.Accept.{accept_of}
use Rattle.ring.specs.Trace.{span_of, is_fixed, fallback_of, trace_by, quad_trace, top_of, better_of, first_of, both_quads, short_trace, found_of, under_lens, picture_middle, lens_trace, attempt_of}
use Rattle.accept.specs.declared.Fix.{Fix}
use Rattle.ring.specs.declared.quads.Trace.{Trace}

-- ---- a fix and a fallback
module _ (f : Option Fix) (q : Quad) (s : Scores) (l : Lens) where
  pub fallback-none : {x : Fix} → f ≡ Some x → None ≡ fallback_of f q s l
  unfolding fallback_of
  fallback-none e = sym (ap (λ (f : Option Fix). fallback_of f q s l) e)

  pub fallback-some : (r : Option Fix) → f ≡ None → r ≡ accept_of q s l true → r ≡ fallback_of f q s l
  unfolding fallback_of
  fallback-some r e er = er ∙ sym (ap (λ (f : Option Fix). fallback_of f q s l) e)

-- ---- a quad
pub trace-is : (q : Quad) (l : Lens) (hull : ℕ) (s : Scores) (fix back : Option Fix) → fix ≡ accept_of q s l false → back ≡ fallback_of fix q s l
    → record { hull = hull; quad = Some q; scores = s; fix = fix; fallback = back } ≡ trace_by q l hull s
unfolding trace_by
trace-is q l hull s fix back ef eb =
    ap (λ (b : Option Fix). record { hull = hull; quad = Some q; scores = s; fix = fix; fallback = b }) eb
    ∙ ap (λ (f : Option Fix). record { hull = hull; quad = Some q; scores = s; fix = f; fallback = fallback_of f q s l }) ef

pub trace-few : (q : Quad) (l : Lens) (hull : ℕ) (s : Scores) (r : Trace) → r ≡ trace_by q l hull s → s.many ≤ 64 → r.scores.many ≤ 64
unfolding trace_by
trace-few q l hull s r e h = subst (λ (t : Trace). t.scores.many ≤ 64) (sym e) h

pub quad-trace : (gray : List ℕ) (w h : ℕ) (q : Quad) (l : Lens) (hull most : ℕ) (span : Float) (s : Search) (r : Trace) → span ≡ span_of q
    → s ≡ search_of gray w h (record { quad = q; lens = l; most = most; span = span }) → r ≡ trace_by q l hull s.scores
    → r ≡ quad_trace gray w h q l hull most
unfolding quad_trace
quad-trace gray w h q l hull most span s r en es er =
    er
    ∙ ap (λ (s : Search). trace_by q l hull s.scores)
    (es ∙ ap (λ (x : Float). search_of gray w h (record { quad = q; lens = l; most = most; span = x })) en)

-- ---- two traces
module _ (t u : Trace) (b : Bool) (eb : b ≡ is_fixed u.fix) where
  abbrev more : Bool → Trace
  more b = cond b u t

  better-by : (c : Bool) → b ≡ c → cond c u (more (lt (top_of t) (top_of u))) ≡ better_of t u
  unfolding better_of
  better-by c e = ap (λ (c : Bool). cond c u (more (lt (top_of t) (top_of u)))) (sym e ∙ eb)

  pub better-fix : b ≡ true → u ≡ better_of t u
  better-fix e = better-by true e

  module _ (none : b ≡ false) (x y : Float) (ex : x ≡ top_of t) (ey : y ≡ top_of u) where
    top-by : (c : Bool) → lt x y ≡ c → more c ≡ better_of t u
    top-by c e =
        ap more (sym e ∙ ap (λ (x : Float). lt x y) ex ∙ ap (lt (top_of t)) ey) ∙ better-by false none

    pub better-more : lt x y ≡ true → u ≡ better_of t u
    better-more e = top-by true e

    pub better-less : lt x y ≡ false → t ≡ better_of t u
    better-less e = top-by false e

module _ (gray : List ℕ) (w h : ℕ) (edges : Option Quad) (r : Quad) (l : Lens) (hull most : ℕ) where
  abbrev alone : Quad → Trace
  alone q = quad_trace gray w h q l hull most

  pub tried-one : (z : Trace) → edges ≡ None → z ≡ alone r → z ≡ both_quads gray w h edges r l hull most
  unfolding both_quads
  tried-one z e ez = ez ∙ sym (ap (λ (c : Option Quad). both_quads gray w h c r l hull most) e)

  module _ {q : Quad} (some : edges ≡ Some q) (b : Bool) (eb : b ≡ same_of q r 3f) where
    abbrev ways : Bool → Trace
    ways b = cond b (alone r) (first_of (alone q) (alone r))

    tried-by : (c : Bool) → b ≡ c → ways c ≡ both_quads gray w h edges r l hull most
    unfolding both_quads
    tried-by c e = ap ways (sym e ∙ eb) ∙ sym (ap (λ (c : Option Quad). both_quads gray w h c r l hull most) some)

    pub tried_same : (z : Trace) → b ≡ true → z ≡ alone r → z ≡ both_quads gray w h edges r l hull most
    tried_same z e ez = ez ∙ tried-by true e

    module _ (apart : b ≡ false) (t : Trace) (et : t ≡ alone q) (f : Bool) (ef : f ≡ is_fixed t.fix) where
      first_by : (c : Bool) (u : Trace) → f ≡ c → u ≡ alone r → cond c t (better_of t u) ≡ both_quads gray w h edges r l hull most
      unfolding first_of
      first_by c u e eu =
          ap (λ (c : Bool). cond c t (better_of t u)) (sym e ∙ ef)
          ∙ ap (first_of t) eu
          ∙ ap (λ (t : Trace). first_of t (alone r)) et
          ∙ tried-by false apart

      pub tried-first : f ≡ true → t ≡ both_quads gray w h edges r l hull most
      tried-first e = first_by true (alone r) e refl

      pub tried-both : (u z : Trace) → f ≡ false → u ≡ alone r → z ≡ better_of t u → z ≡ both_quads gray w h edges r l hull most
      tried-both u z e eu ez = ez ∙ first_by false u e eu

-- ---- the attempt
pub short-is : (hull : ℕ) (s : Search) → s ≡ none_tried
    → record { hull = hull; quad = None; scores = s.scores; fix = None; fallback = None } ≡ short_trace hull
unfolding short_trace
short-is hull s e =
    ap (λ (s : Search). record { hull = hull; quad = None; scores = s.scores; fix = None; fallback = None }) e

module _ (gray : List ℕ) (w h : ℕ) (s : List Float) (hull : ℕ) (c : Option Quad) (l : Lens) (most : ℕ) where
  pub found_none : (r : Trace) → c ≡ None → r ≡ short_trace hull → r ≡ found_of gray w h s hull c l most
  unfolding found_of
  found_none r e er = er ∙ sym (ap (λ (c : Option Quad). found_of gray w h s hull c l most) e)

  pub found_some : {q : Quad} (edges : Option Quad) (refined : Quad) (r : Trace) → c ≡ Some q → refined ≡ refined_of s q → edges ≡ edge_quad s q
      → r ≡ both_quads gray w h edges refined l hull most → r ≡ found_of gray w h s hull c l most
  unfolding found_of
  found_some {q} edges refined r e en ee er =
      er
      ∙ ap (λ (c : Option Quad). both_quads gray w h c refined l hull most) ee
      ∙ ap (λ (z : Quad). both_quads gray w h (edge_quad s q) z l hull most) en
      ∙ sym (ap (λ (c : Option Quad). found_of gray w h s hull c l most) e)

module _ (gray : List ℕ) (w h : ℕ) (s : List Float) (l : Lens) (most : ℕ) where
  pub under-is : (n : ℕ) (c : Option Quad) (r : Trace) → n ≡ length (hull_of s (many s)) → c ≡ hull_quad s
      → r ≡ found_of gray w h s n c l most → r ≡ under_lens gray w h s l most
  under-is n c r en ec er =
      er
      ∙ ap (λ (n : ℕ). found_of gray w h s n c l most) en
      ∙ ap (λ (c : Option Quad). found_of gray w h s (length (hull_of s (many s))) c l most) ec

  lens-by : (b : Bool) → eq l.k 0f ≡ b
      → cond b (under_lens gray w h s l most) (under_lens gray w h (straight_of l s) l most) ≡ lens_trace gray w h s l most
  unfolding lens_trace
  lens-by b e =
      sym (ap (λ (b : Bool). cond b (under_lens gray w h s l most) (under_lens gray w h (straight_of l s) l most)) e)

  pub lens_same : (r : Trace) → eq l.k 0f ≡ true → r ≡ under_lens gray w h s l most → r ≡ lens_trace gray w h s l most
  lens_same r e er = er ∙ lens-by true e

  pub lens-straight : (r : Trace) {old new : List Float} {n : ℕ} → eq l.k 0f ≡ false → KeptIn (length s) (straight_of l s) old new n
      → r ≡ under_lens gray w h (take (2 * n) new) l most → r ≡ lens_trace gray w h s l most
  lens-straight r e kept er = er ∙ ap (λ (z : List Float). under_lens gray w h z l most) (kept-front kept) ∙ lens-by false e

pub attempt-is : (gray : List ℕ) (w h : ℕ) (s : List Float) (most : ℕ) (c : Option Quad) (m : Point) (l : Lens) (r : Trace) → c ≡ hull_quad s
    → m ≡ picture_middle w h → l ≡ lens_of s c m → r ≡ lens_trace gray w h s l most → r ≡ attempt_of gray w h s most
unfolding attempt_of
attempt-is gray w h s most c m l r ec em el er =
    er
    ∙ ap (λ (l : Lens). lens_trace gray w h s l most)
    (el ∙ ap (λ (c : Option Quad). lens_of s c m) ec ∙ ap (lens_of s (hull_quad s)) em)
