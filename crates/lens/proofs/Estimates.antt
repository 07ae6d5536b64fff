-- The ways of a pass, of the second pass and of the estimate. Assumes nothing.
--   after_none, after-some                 an edge's measure after one that is none, and after one that is some
--   measures-by                            four measures, each looked for only after one that is some
--   step-none, step-wild, step-on, -off    a pass without weights, with infinite ones, with edges that agree, and that do not
--   pass-none, pass-by                     a pass without a quad, and by its measures
--   second-same, second-straight           the second pass over the points as they are, and straightened
--   straight-by                            a pass over straightened points, with the quad of their hull
--   lens_none, lens-by                     the estimate without a first pass, and by both
use Rattle.std.proofs.Common.{◌≡◌, ℕ, ◌*◌, Bool, true, false, cond, not, ◌||◌, List, length, take, sym, refl, ap, ◌∙◌}
use Rattle.std.specs.Prelude.{Option, Some, None}
use lib.Ieee.{Float, eq}
use Rattle.ieee.specs.Constants.{0f}
use Rattle.ieee.specs.Ops.{abs, finite}
use Rattle.hull.specs.declared.points.Point.{Point}
use Rattle.hull.specs.declared.points.Quad.{Quad}
use Rattle.fit.specs.F32.{◌⊕◌, ◌⊘◌}
use Rattle.fit.specs.Select.{KeptIn}
use Rattle.fit.proofs.Selects.{kept-front}
use Rattle.lens.specs.Straight.{straight_of}
use Rattle.lens.specs.Measure.{measure_of}
use Rattle.lens.specs.Estimate.{measures_of, after_measure, quad_measures, weights, shares, mean_slope, all_agree, corner_reach, pass_at, slope_step, step_by, lens_pass, hull_quad, lens_at, second_of, lens_end, lens_of}
use Rattle.lens.specs.declared.straight.Lens.{Lens}
use Rattle.lens.specs.declared.measure.Slope.{Slope}
use Rattle.lens.specs.declared.estimate.Slopes.{Slopes}
use Rattle.lens.specs.declared.estimate.Pass.{Pass}

-- ---- four measures
pub after_none : (before measure : Option Slope) → before ≡ None → None ≡ after_measure before measure
after_none before measure h = sym (ap (λ (l : Option Slope). after_measure l measure) h)

pub after-some : (before measure r : Option Slope) {f : Slope} → before ≡ Some f → r ≡ measure → r ≡ after_measure before measure
after-some before measure r h q = q ∙ sym (ap (λ (l : Option Slope). after_measure l measure) h)

chained : (a b c d : Option Slope)
    → measures_of a (after_measure a b) (after_measure (after_measure a b) c) (after_measure (after_measure (after_measure a b) c) d)
    ≡ measures_of a b c d
unfolding measures_of
chained None b c d = refl
chained (Some f) None c d = refl
chained (Some f) (Some g) None d = refl
chained (Some f) (Some g) (Some h) d = refl

module _ (s : List Float) (q : Quad) (m : Point) (ab bc cd da : Option Slope) where
  pub measures-by : (r : Option Slopes) → ab ≡ measure_of s q.a q.b m → bc ≡ after_measure ab (measure_of s q.b q.c m)
      → cd ≡ after_measure bc (measure_of s q.c q.d m) → da ≡ after_measure cd (measure_of s q.d q.a m)
      → r ≡ measures_of ab bc cd da → r ≡ quad_measures s q m
  measures-by r ea eb ec ed er =
      let bc₀ = measure_of s q.b q.c m in
      let cd₀ = measure_of s q.c q.d m in
      let da₀ = measure_of s q.d q.a m in
      er
      ∙ ap (measures_of ab bc cd) ed
      ∙ ap (λ (cd : Option Slope). measures_of ab bc cd (after_measure cd da₀)) ec
      ∙ ap (λ (bc : Option Slope). measures_of ab bc (after_measure bc cd₀) (after_measure (after_measure bc cd₀) da₀)) eb
      ∙ chained ab bc₀ cd₀ da₀
      ∙ ap (λ (ab : Option Slope). measures_of ab bc₀ cd₀ da₀) ea

-- ---- a pass
module _ (t : Slopes) (kappa reach : Float) (w : Float) (ew : w ≡ weights t) where
  abbrev total : Float
  total = kappa ⊕ mean_slope t

  abbrev ended : Bool → Option Pass
  ended b = cond b (Some (pass_at total reach)) None

  abbrev agreed : Option Pass
  agreed = ended (all_agree (mean_slope t) (abs total) t)

  weight-by : (b : Bool) → (eq w 0f || not (finite w)) ≡ b → cond b None agreed ≡ slope_step t kappa reach
  unfolding slope_step
  weight-by b h =
      ap (λ (b : Bool). cond b None agreed) (sym h) ∙ ap (λ (w : Float). cond (eq w 0f || not (finite w)) None agreed) ew

  pub step-none : eq w 0f ≡ true → None ≡ slope_step t kappa reach
  step-none h = weight-by true (ap (λ (b : Bool). b || not (finite w)) h)

  module _ (some : eq w 0f ≡ false) (f : Bool) (ef : f ≡ finite w) where
    wild-by : (b : Bool) → not f ≡ b → (eq w 0f || not (finite w)) ≡ b
    wild-by b h = ap (λ (b : Bool). b || not (finite w)) some ∙ ap not (sym ef) ∙ h

    pub step-wild : not f ≡ true → None ≡ slope_step t kappa reach
    step-wild h = weight-by true (wild-by true h)

    module _ (tame : not f ≡ false) (z : Float) (ez : z ≡ shares t) (p : Float) (ep : p ≡ abs (kappa ⊕ z ⊘ w)) (b : Bool)
        (eb : b ≡ all_agree (z ⊘ w) p t) where
      mean : z ⊘ w ≡ mean_slope t
      mean = ap (λ (z : Float). z ⊘ w) ez ∙ ap (λ (w : Float). shares t ⊘ w) ew

      agree-is : b ≡ all_agree (mean_slope t) (abs total) t
      agree-is =
          eb
          ∙ ap (λ (p : Float). all_agree (z ⊘ w) p t) ep
          ∙ ap (λ (u : Float). all_agree u (abs (kappa ⊕ u)) t) mean

      step_by_lem : (c : Bool) → b ≡ c → cond c (Some (pass_at (kappa ⊕ z ⊘ w) reach)) None ≡ slope_step t kappa reach
      step_by_lem c h =
          ap (λ (u : Float). cond c (Some (pass_at (kappa ⊕ u) reach)) None) mean
          ∙ ap ended (sym h ∙ agree-is)
          ∙ weight-by false (wild-by false tame)

      pub step-on : b ≡ true → Some (pass_at (kappa ⊕ z ⊘ w) reach) ≡ slope_step t kappa reach
      step-on h = step_by_lem true h

      pub step-off : b ≡ false → None ≡ slope_step t kappa reach
      step-off h = step_by_lem false h

pub pass-none : (s : List Float) (q : Option Quad) (m : Point) (kappa reach : Float) → q ≡ None → None ≡ lens_pass s q m kappa reach
unfolding lens_pass
pass-none s q m kappa reach h = sym (ap (λ (q : Option Quad). lens_pass s q m kappa reach) h)

pub pass-by : (s : List Float) (q : Option Quad) (m : Point) (kappa reach : Float) {f : Quad} (t : Option Slopes) (w : Float) (r : Option Pass)
    → q ≡ Some f → t ≡ quad_measures s f m → w ≡ corner_reach f m reach → r ≡ step_by t kappa w → r ≡ lens_pass s q m kappa reach
unfolding lens_pass
pass-by s q m kappa reach {f} t w r h et ew er =
    er
    ∙ ap (step_by t kappa) ew
    ∙ ap (λ (t : Option Slopes). step_by t kappa (corner_reach f m reach)) et
    ∙ sym (ap (λ (q : Option Quad). lens_pass s q m kappa reach) h)

-- ---- the second pass
module _ (s : List Float) (raw : Option Quad) (m : Point) (p : Pass) where
  abbrev straight : List Float
  straight = straight_of (lens_at m p.kappa) s

  abbrev ways : Bool → Option Pass
  ways b = cond b (lens_pass s raw m p.kappa p.reach) (lens_pass straight (hull_quad straight) m p.kappa p.reach)

  second-by : (b : Bool) → eq p.kappa 0f ≡ b → ways b ≡ second_of s raw m (Some p)
  unfolding second_of
  second-by b h = sym (ap ways h)

  pub second-same : (r : Option Pass) → eq p.kappa 0f ≡ true → r ≡ lens_pass s raw m p.kappa p.reach → r ≡ second_of s raw m (Some p)
  second-same r h q = q ∙ second-by true h

  pub second-straight : (r : Option Pass) {old new : List Float} {n : ℕ} → eq p.kappa 0f ≡ false → KeptIn (length s) straight old new n
      → r ≡ lens_pass (take (2 * n) new) (hull_quad (take (2 * n) new)) m p.kappa p.reach → r ≡ second_of s raw m (Some p)
  second-straight r h kept q = q ∙ ap (λ (l : List Float). lens_pass l (hull_quad l) m p.kappa p.reach) (kept-front kept) ∙ second-by false h

pub straight-by : (s : List Float) (q : Option Quad) (m : Point) (k reach : Float) (r : Option Pass) → q ≡ hull_quad s → r ≡ lens_pass s q m k reach
    → r ≡ lens_pass s (hull_quad s) m k reach
straight-by s q m k reach r eq er = er ∙ ap (λ (q : Option Quad). lens_pass s q m k reach) eq

-- ---- the estimate
module _ (s : List Float) (raw : Option Quad) (m : Point) (first : Option Pass) (is : first ≡ lens_pass s raw m 0f 0f) where
  lens-is : lens_end m (second_of s raw m first) ≡ lens_of s raw m
  unfolding lens_of
  lens-is = ap (λ (p : Option Pass). lens_end m (second_of s raw m p)) is

  pub lens_none : (r : Lens) → first ≡ None → r ≡ lens_end m None → r ≡ lens_of s raw m
  unfolding second_of
  lens_none r h q = q ∙ sym (ap (λ (p : Option Pass). lens_end m (second_of s raw m p)) h) ∙ lens-is

  pub lens-by : (r : Lens) {f : Pass} (p : Option Pass) → first ≡ Some f → p ≡ second_of s raw m (Some f) → r ≡ lens_end m p
      → r ≡ lens_of s raw m
  lens-by r p h e q = q ∙ ap (lens_end m) e ∙ sym (ap (λ (p : Option Pass). lens_end m (second_of s raw m p)) h) ∙ lens-is
