-- The definitions of the mapping, from what each call gives.
--     the divisor: guarded-near, guarded-low, guarded-high
--     the lens: place, lens_none, lens-some
--     a place's pixel: flat-is, applied-is
--     the transform: radial-is
--     four corners: quad_is
--     lists of numbers that are equal one by one: cons-cong
-- Assumes nothing.
use Rattle.std.proofs.Common.{◌≡◌, ℕ, ◌+◌, ◌*◌, ◌<◌, Bool, true, false, cond, ◌&&◌, T, ltb, List, ◌∷◌, Option, ℤ, negsuc, sym, refl, ap, ◌∙◌, arith, ltb→lt, lt→ltb}
use mathlib.Core.Bool.{false≢true}
use lib.Ieee.Bits.{is_true}
use lib.Ieee.{nan, inf, fin, up, down, neg, Float, binary64, add, sub, div, lt, eq, of_bits}
use Rattle.ieee.specs.Narrow.{narrow}
use Rattle.ieee.specs.Ops.{abs}
use Rattle.math.specs.Equations.{solution}
use Rattle.transform.specs.Mapping.{zero, matrix, numbers, from_solution, from_quad, with_radial, guarded, plane_place, bent, four_rounds, about_centre, through_lens, flat_place, rounded, applied}
use Rattle.ieee.specs.Constants.{1d, 1e-9}
use Rattle.transform.specs.declared.Transform.{Transform}
use Rattle.transform.specs.declared.Pixel.{Pixel}
use Rattle.transform.specs.declared.Place.{Place}

-- ---- the divisor
-- a magnitude is below a bound where the number lies between the bound's two signs
small-both : (w : Float) (m : ℕ) (e : ℤ) → lt (abs w) (fin false m e) ≡ (lt w (fin false m e) && lt (fin true m e) w)
unfolding lt abs
small-both nan m e = refl
small-both (inf true) m e = refl
small-both (inf false) m e = refl
small-both (fin false a d) m e =
    let A = a * up d * down e in
    let C = m * up e * down d in
    above A C (ltb A C) (ltb→lt A C)
  where
    above : (A C : ℕ) (b : Bool) → (T b → A < C) → b ≡ (b && ltb 0 (C + A))
    above A C true h = let l = h tt in sym (is_true (ltb 0 (C + A)) (lt→ltb 0 (C + A) (omega arith)))
    above A C false h = refl
small-both (fin true a d) m e =
    let A = a * up d * down e in
    let C = m * up e * down d in
    below A C (ltb A C) (ltb→lt A C)
  where
    and-true : (b : Bool) → b ≡ true → true ≡ (b && true)
    and-true true e = refl
    and-true false e = absurd (false≢true e)

    and-false : (b : Bool) → false ≡ (b && false)
    and-false true = refl
    and-false false = refl

    below : (A C : ℕ) (b : Bool) → (T b → A < C) → b ≡ (ltb 0 (A + C) && b)
    below A C true h = let l = h tt in and-true (ltb 0 (A + C)) (is_true (ltb 0 (A + C)) (lt→ltb 0 (A + C) (omega arith)))
    below A C false h = and-false (ltb 0 (A + C))

nano : 1e-9 ≡ fin false 4835703278458517 (negsuc 81)
unfolding of_bits
nano = refl

minus-nano : neg 1e-9 ≡ fin true 4835703278458517 (negsuc 81)
unfolding of_bits neg
minus-nano = refl

test-is : (w : Float) → lt (abs w) 1e-9 ≡ (lt w 1e-9 && lt (neg 1e-9) w)
test-is w =
    ap (lt (abs w)) nano ∙ small-both w 4835703278458517 (negsuc 81)
    ∙ sym (ap (λ (z : Float). lt w z && lt (neg 1e-9) w) nano
    ∙ ap (λ (z : Float). lt w (fin false 4835703278458517 (negsuc 81)) && lt z w) minus-nano)

guarded-by : (w : Float) (a b : Bool) → lt w 1e-9 ≡ a → lt (neg 1e-9) w ≡ b → cond (a && b) 1e-9 w ≡ guarded w
unfolding guarded
guarded-by w a b p q =
    sym (ap (λ (t : Bool). cond t 1e-9 w) (test-is w ∙ ap (λ (t : Bool). t && lt (neg 1e-9) w) p ∙ ap (λ (t : Bool). a && t) q))

pub guarded-near : (w : Float) → lt w 1e-9 ≡ true → lt (neg 1e-9) w ≡ true → 1e-9 ≡ guarded w
guarded-near w p q = guarded-by w true true p q

pub guarded-low : (w : Float) → lt w 1e-9 ≡ true → lt (neg 1e-9) w ≡ false → w ≡ guarded w
guarded-low w p q = guarded-by w true false p q

pub guarded-high : (w : Float) → lt w 1e-9 ≡ false → w ≡ guarded w
guarded-high w p = guarded-by w false _ p refl

-- ---- the lens
abbrev pub place : Float → Float → Place
place a b = record { x = a; y = b }

pub lens_none : (cx cy k : Float) (p : Place) → eq k zero ≡ true → p ≡ through_lens cx cy k p
unfolding through_lens
lens_none cx cy k p e = sym (ap (λ (b : Bool). cond b p (about_centre cx cy k p)) e)

pub lens-some : (cx cy k : Float) (p u d1 d2 d3 d4 : Place) → eq k zero ≡ false
    → u ≡ place (sub binary64 p.x cx) (sub binary64 p.y cy) → d1 ≡ bent k u u → d2 ≡ bent k u d1 → d3 ≡ bent k u d2 → d4 ≡ bent k u d3
    → place (add binary64 cx d4.x) (add binary64 cy d4.y) ≡ through_lens cx cy k p
unfolding through_lens about_centre four_rounds
lens-some cx cy k p u d1 d2 d3 d4 e eu e1 e2 e3 e4 =
    let shift : Place → Place = λ d. place (add binary64 cx d.x) (add binary64 cy d.y) in
    ap shift (e4 ∙ ap (bent k u) (e3 ∙ ap (bent k u) (e2 ∙ ap (bent k u) e1)))
    ∙ ap (λ (u : Place). shift (bent k u (bent k u (bent k u (bent k u u))))) eu
    ∙ sym (ap (λ (b : Bool). cond b p (about_centre cx cy k p)) e)

-- ---- a place's pixel
pub flat-is : (t : Transform) (u v w : Float) → w ≡ guarded (plane_place t.m6 t.m7 1d u v)
    → place (div binary64 (plane_place t.m0 t.m1 t.m2 u v) w) (div binary64 (plane_place t.m3 t.m4 t.m5 u v) w) ≡ flat_place t u v
unfolding flat_place
flat-is t u v w e =
    ap (λ (z : Float). place (div binary64 (plane_place t.m0 t.m1 t.m2 u v) z) (div binary64 (plane_place t.m3 t.m4 t.m5 u v) z)) e

pub applied-is : (t : Transform) (u v : Float) (p q : Place) (x y : Float) → p ≡ flat_place t u v
    → q ≡ through_lens t.cx t.cy t.kappa p → x ≡ narrow q.x → y ≡ narrow q.y → record { x = x; y = y } ≡ applied t u v
unfolding applied
applied-is t u v p q x y ep eq' ex ey =
    let pixel : Float → Float → Pixel = λ x y. record { x = x; y = y } in
    ap (λ (z : Float). pixel z y) ex ∙ ap (pixel (narrow q.x)) ey
    ∙ ap rounded (eq' ∙ ap (through_lens t.cx t.cy t.kappa) ep)

-- ---- the transform
pub radial-is : (t : Transform) (cx cy k a b c : Float) → a ≡ cx → b ≡ cy → c ≡ k → with_radial t a b c ≡ with_radial t cx cy k
radial-is t cx cy k a b c e f g =
    ap (λ (z : Float). with_radial t z b c) e ∙ ap (λ (z : Float). with_radial t cx z c) f ∙ ap (with_radial t cx cy) g

-- ---- four corners
matrix-numbers : (s d : List Float) → matrix (numbers s) (numbers d) ≡ matrix s d
unfolding matrix
matrix-numbers s d = refl

pub quad_is : (s d a u b : List Float) (r : Option (List Float)) → u ≡ numbers s → b ≡ numbers d → a ≡ matrix u b → r ≡ solution 8 a b
    → from_solution r ≡ from_quad s d
unfolding from_quad
quad_is s d a u b r eu eb ea er =
    let e : a ≡ matrix s d =
    ea ∙ ap (λ (z : List Float). matrix z b) eu ∙ ap (matrix (numbers s)) eb ∙ matrix-numbers s d in
    ap from_solution
    (er ∙ ap (λ (z : List Float). solution 8 z b) e ∙ ap (solution 8 (matrix s d)) eb)

-- ---- lists of numbers that are equal one by one
pub cons-cong : {a b : Float} {r s : List Float} → a ≡ b → r ≡ s → (a ∷ r) ≡ (b ∷ s)
cons-cong e f = λ i. e i ∷ f i
