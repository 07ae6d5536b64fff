-- Sums and scatter by one point more, and the axis of a scatter. Assumes nothing.
--   no_number                           0 / 0 is a NaN
--   sums_none, sums-all, sums-step, sums-end      the sums of no points and of some, of one more, at the end
--   scatter-begin, -step, -end          the scatter of no point yet, of one more, of all
--   axis-by                             the axis by the eigenvalue and the test between its two forms
--   tls-by                              the line by the sums and the scatter
use mathlib.Core.Path.{◌≡◌, refl, sym, ap, ◌∙◌}
use mathlib.Core.Bool.{Bool, true, false, cond}
use mathlib.Core.List.{List}
use Prim.Native.Nat.{ℕ, ◌+◌, ◌-◌, ◌≤◌, ◌<◌}
use lib.Dec.{ltb}
use lib.Ieee.{Float, nan, binary32, le, div, of_bits}
use borrow.Author.Tests.{lt-ltb, le-ltb}
use Rattle.laws.proofs.Steps.{on, done, from_zero}
use Rattle.ieee.specs.Root.{sqrt}
use Rattle.ieee.specs.Ops.{abs}
use Rattle.hull.specs.Points.{many}
use Rattle.hull.specs.declared.points.Point.{Point}
use Rattle.fit.specs.F32.{◌⊕◌, ◌⊖◌, ◌⊗◌, ◌⊘◌, whole_float, x_of, y_of}
use Rattle.ieee.specs.Constants.{0f, 2f}
use Rattle.fit.specs.Line.{point_of, sums_on, sums_of, scatter_on, spread_of, scatter_of, along_line, axis_of, tls_of}
use Rattle.fit.specs.declared.line.Scatter.{Scatter}
use Rattle.fit.specs.declared.line.Line.{Line}

-- ---- sums
-- what code writes for a NaN
pub no_number : div binary32 0f 0f ≡ nan
unfolding div of_bits
no_number = refl

module _ (s : List Float) where
  abbrev sum_step : ℕ → Point → Point
  sum_step k t = point_of (t.x ⊕ x_of s k) (t.y ⊕ y_of s k)

  abbrev all_on : Point
  all_on = sums_on s (many s - 1) 1 (point_of (x_of s 0) (y_of s 0))

  sums_by : (b : Bool) → ltb (many s) 1 ≡ b → cond b (point_of nan nan) all_on ≡ sums_of s
  unfolding sums_of
  sums_by b h = sym (ap (λ (b : Bool). cond b (point_of nan nan) all_on) h)

  pub sums_none : many s < 1 → point_of nan nan ≡ sums_of s
  sums_none h = sums_by true (lt-ltb (many s) 1 h)

  pub sums-all : 1 ≤ many s → all_on ≡ sums_of s
  sums-all h = sums_by false (le-ltb (many s) 1 h)

  pub sums-step : (n k : ℕ) (t z : Point) → k < n → sums_on s (n - k) k t ≡ z
      → sums_on s (n - (k + 1)) (k + 1) (point_of (t.x ⊕ x_of s k) (t.y ⊕ y_of s k)) ≡ z
  unfolding sums_on
  sums-step n k t z h q =
      sym (on (sums_on s) sum_step n (λ d k t. refl) k t h) ∙ q

  pub sums-end : (n k : ℕ) (t z : Point) → n ≤ k → sums_on s (n - k) k t ≡ z → t ≡ z
  unfolding sums_on
  sums-end n k t z h q = sym (done (sums_on s) sum_step n (λ k t. refl) k t h) ∙ q

-- ---- scatter
module _ (s : List Float) (m : Point) where
  abbrev scatter_step : ℕ → Scatter → Scatter
  scatter_step k t = spread_of t (x_of s k ⊖ m.x) (y_of s k ⊖ m.y)

  pub scatter-begin : (n : ℕ) (t : Scatter) → scatter_on s m (n - 0) 0 t ≡ scatter_on s m n 0 t
  scatter-begin n t = from_zero (scatter_on s m) scatter_step n t

  pub scatter-step : (n k : ℕ) (t t' z : Scatter) → k < n → t' ≡ spread_of t (x_of s k ⊖ m.x) (y_of s k ⊖ m.y)
      → scatter_on s m (n - k) k t ≡ z → scatter_on s m (n - (k + 1)) (k + 1) t' ≡ z
  unfolding scatter_on
  scatter-step n k t t' z h e q =
      ap (scatter_on s m (n - (k + 1)) (k + 1)) e
      ∙ sym (on (scatter_on s m) scatter_step n (λ d k t. refl) k t h)
      ∙ q

  pub scatter-end : (n k : ℕ) (t z : Scatter) → n ≤ k → scatter_on s m (n - k) k t ≡ z → t ≡ z
  unfolding scatter_on
  scatter-end n k t z h q =
      sym (done (scatter_on s m) scatter_step n (λ k t. refl) k t h) ∙ q

-- ---- the axis
module _ (m : Point) (t : Scatter) (r p q : Float) where
  abbrev half : Float
  half = (t.xx ⊖ t.yy) ⊘ 2f

  abbrev value_by : Float → Float
  value_by r = (t.xx ⊕ t.yy) ⊘ 2f ⊕ r

  -- the two forms, by the root, the two magnitudes and the test between them
  abbrev forms_by : Bool → Float → Line
  forms_by b r = cond b (along_line m (value_by r ⊖ t.yy) t.xy) (along_line m t.xy (value_by r ⊖ t.xx))

  pub axis-by : (b : Bool) → r ≡ sqrt binary32 (half ⊗ half ⊕ t.xy ⊗ t.xy) → p ≡ abs (value_by r ⊖ t.yy)
      → q ≡ abs (value_by r ⊖ t.xx) → le q p ≡ b → forms_by b r ≡ axis_of m t
  unfolding axis_of
  axis-by b er ep eq h =
      ap (λ (b : Bool). forms_by b r) (sym h)
      ∙ ap (λ (q : Float). forms_by (le q p) r) eq
      ∙ ap (λ (p : Float). forms_by (le (abs (value_by r ⊖ t.xx)) p) r) ep
      ∙ ap (λ (r : Float). forms_by (le (abs (value_by r ⊖ t.xx)) (abs (value_by r ⊖ t.yy))) r) er

-- ---- the line
abbrev mean_by : List Float → Point → Point
mean_by s t = point_of (t.x ⊘ whole_float (many s)) (t.y ⊘ whole_float (many s))

pub tls-by : (s : List Float) (t : Point) (g : Scatter) (r : Line) → t ≡ sums_of s → g ≡ scatter_of s (mean_by s t)
    → r ≡ axis_of (mean_by s t) g → r ≡ tls_of s
unfolding tls_of
tls-by s t g r et eg er =
    er ∙ ap (axis_of (mean_by s t)) eg ∙ ap (λ (t : Point). axis_of (mean_by s t) (scatter_of s (mean_by s t))) et
