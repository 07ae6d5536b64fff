-- The ways of an edge's side and of its measure. Assumes nothing.
--   side-in, side-out                              the first normal points inward, or outward
--   measure-short, measure-few, measure-bent       an edge under 16, with too few samples, with what its bow tells
use Rattle.std.proofs.Common.{◌≡◌, ℕ, ◌*◌, Bool, true, false, cond, List, length, take, sym, ap, ◌∙◌}
use Rattle.std.specs.Prelude.{Option, None}
use lib.Ieee.{Float, lt, neg}
use Rattle.ieee.specs.Constants.{0f, 0·3}
use Rattle.hull.specs.Points.{many}
use Rattle.hull.specs.declared.points.Point.{Point}
use Rattle.fit.specs.F32.{◌⊗◌, whole_float, 16f}
use Rattle.fit.specs.Select.{KeptIn}
use Rattle.fit.specs.Corner.{edge_from}
use Rattle.fit.specs.declared.line.Edge.{Edge}
use Rattle.fit.proofs.Selects.{kept_half, kept-front}
use Rattle.lens.specs.Bow.{two_fits}
use Rattle.lens.specs.Measure.{height_over, edge_side, samples_of, bent_of, measure_of}
use Rattle.lens.specs.declared.bow.Bow.{Bow}
use Rattle.lens.specs.declared.measure.Side.{Side}
use Rattle.lens.specs.declared.measure.Slope.{Slope}

-- ---- the two sides of an edge
module _ (e : Edge) (m : Point) where
  abbrev inner : Side
  inner = record { h = height_over e m; nx = neg e.uy; ny = neg (neg e.ux) }

  abbrev outer : Side
  outer = record { h = height_over e m; nx = e.uy; ny = neg e.ux }

  side-by : (t : Bool) → lt (height_over e m) 0f ≡ t → cond t inner outer ≡ edge_side e m
  unfolding edge_side
  side-by t h = sym (ap (λ (t : Bool). cond t inner outer) h)

  pub side-in : lt (height_over e m) 0f ≡ true → inner ≡ edge_side e m
  side-in h = side-by true h

  pub side-out : lt (height_over e m) 0f ≡ false → outer ≡ edge_side e m
  side-out h = side-by false h

-- ---- a measure, by the edge, its side and the samples that the code finds
module _ (s : List Float) (a b m : Point) (e : Edge) (is : e ≡ edge_from a b) where
  abbrev tells : Edge → Side → Option Slope
  tells e d = bent_of e d (two_fits (samples_of e d s))

  abbrev many_by : Edge → Side → Option Slope
  many_by e d = cond (lt (whole_float (many (samples_of e d s))) (0·3 ⊗ e.len)) None (tells e d)

  edge_by : (t : Bool) → lt e.len 16f ≡ t → cond t None (many_by e (edge_side e m)) ≡ measure_of s a b m
  unfolding measure_of
  edge_by t h =
      ap (λ (t : Bool). cond t None (many_by e (edge_side e m))) (sym h)
      ∙ ap (λ (e : Edge). cond (lt e.len 16f) None (many_by e (edge_side e m))) is

  pub measure-short : lt e.len 16f ≡ true → None ≡ measure_of s a b m
  measure-short h = edge_by true h

  module _ (long : lt e.len 16f ≡ false) (d : Side) (ed : d ≡ edge_side e m) {old new : List Float} {r : ℕ}
      (q : KeptIn (length s) (samples_of e d s) old new r) where
    few-by : (t : Bool) → lt (whole_float r) (0·3 ⊗ e.len) ≡ t → cond t None (tells e d) ≡ measure_of s a b m
    few-by t h =
        ap (λ (t : Bool). cond t None (tells e d)) (sym h)
        ∙ sym (ap (λ (n : ℕ). cond (lt (whole_float n) (0·3 ⊗ e.len)) None (tells e d)) (kept_half q))
        ∙ ap (many_by e) ed
        ∙ edge_by false long

    pub measure-few : lt (whole_float r) (0·3 ⊗ e.len) ≡ true → None ≡ measure_of s a b m
    measure-few h = few-by true h

    pub measure-bent : (z : Option Slope) (f : Option Bow) → lt (whole_float r) (0·3 ⊗ e.len) ≡ false → f ≡ two_fits (take (2 * r) new)
        → z ≡ bent_of e d f → z ≡ measure_of s a b m
    measure-bent z f h ef ez = ez ∙ ap (bent_of e d) (ef ∙ ap two_fits (kept-front q)) ∙ few-by false h
