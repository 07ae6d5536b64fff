-- Normal equations and sums of squares by one sample more, and the ways of a fit. Assumes nothing.
--   sample_in, sample_out, row-many           a sample that counts or not, and how many count then
--   normal-begin, -step, -end                 the normal equations: of no sample yet, of one more, of all
--   rss-begin, -step, -end                    the sum of squares, so
--   solved-none, solved-some                  three unknowns, by what elimination and substitution leave
--   bow-few, bow-none, bow-none-2, bow-some   the ways of a fit
--   bow-at                                    the bow that the code makes
--   fits-none, fits-two                       the ways of two fits
use Rattle.std.proofs.Common.{◌≡◌, ℕ, ◌+◌, ◌-◌, ◌<◌, ◌≤◌, Bool, true, false, cond, ltb, List, [], ◌∷◌, sym, refl, ap, ◌∙◌, le-ltb, lt-ltb}
use Rattle.std.specs.Prelude.{not, is_some, Option, Some, None}
use lib.Ieee.{Float, binary32}
use Rattle.laws.proofs.Steps.{on, done, from_zero}
use Rattle.ieee.specs.Root.{sqrt}
use Rattle.ieee.specs.Narrow.{narrow}
use Rattle.math.specs.Lists.{number_at}
use Rattle.math.specs.Elimination.{Outcome, forward_on, back_on}
use Rattle.fit.specs.F32.{◌⊖◌, ◌⊗◌, ◌⊘◌, whole_float, x_of, y_of}
use Rattle.ieee.specs.Constants.{1f, 1d}
use Rattle.lens.specs.Bow.{0d, inlier_of, row_added, sample_of, normal_on, normal_of, system_of, unknowns, solved_of, rest_of, square_in, rss_on, rss_of, positive_of, first_fit, bow_at, bow_by, bow_of, two_fits}
use Rattle.lens.specs.declared.bow.Bow.{Bow}
use Rattle.lens.specs.declared.bow.Normal.{Normal}

-- ---- one sample more
module _ (prev : Option Bow) (t o : Float) (a : Normal) (b : Bool) (is : b ≡ inlier_of prev t o (t ⊗ (1f ⊖ t))) where
  abbrev g : Float
  g = t ⊗ (1f ⊖ t)

  sample-by : (c : Bool) → b ≡ c → cond c (row_added a t g o) a ≡ sample_of prev t o a
  unfolding sample_of
  sample-by c h = ap (λ (c : Bool). cond c (row_added a t g o) a) (sym h ∙ is)

  pub sample_in : (r : Normal) (t' g' o' : Float) → b ≡ true → t' ≡ t → g' ≡ g → o' ≡ o → r ≡ row_added a t' g' o' → r ≡ sample_of prev t o a
  sample_in r t' g' o' h et eg eo q =
      q
      ∙ ap (λ (t : Float). row_added a t g' o') et
      ∙ ap (λ (g : Float). row_added a t g o') eg
      ∙ ap (row_added a t g) eo
      ∙ sample-by true h

  pub sample_out : b ≡ false → a ≡ sample_of prev t o a
  sample_out h = sample-by false h

pub row-many : (a r : Normal) (t g o : Float) → r ≡ row_added a t g o → r.n ≡ a.n + 1
unfolding row_added
row-many a r t g o q = ap (λ (r : Normal). r.n) q

module _ (s : List Float) (prev : Option Bow) where
  abbrev normal_step : ℕ → Normal → Normal
  normal_step k a = sample_of prev (x_of s k) (y_of s k) a

  pub normal-begin : (n : ℕ) (a : Normal) → normal_on s prev (n - 0) 0 a ≡ normal_on s prev n 0 a
  normal-begin n a = from_zero (normal_on s prev) normal_step n a

  pub normal-step : (n k : ℕ) (a a' z : Normal) → k < n → a' ≡ sample_of prev (x_of s k) (y_of s k) a → normal_on s prev (n - k) k a ≡ z
      → normal_on s prev (n - (k + 1)) (k + 1) a' ≡ z
  unfolding normal_on
  normal-step n k a a' z h e q =
      ap (normal_on s prev (n - (k + 1)) (k + 1)) e ∙ sym (on (normal_on s prev) normal_step n (λ d k a. refl) k a h) ∙ q

  pub normal-end : (n k : ℕ) (a z : Normal) → n ≤ k → normal_on s prev (n - k) k a ≡ z → a ≡ z
  unfolding normal_on
  normal-end n k a z h q = sym (done (normal_on s prev) normal_step n (λ k a. refl) k a h) ∙ q

-- ---- the sum of squares
module _ (s : List Float) (all : Bool) (f0 f1 f2 : Float) where
  abbrev rss_step : ℕ → Float → Float
  rss_step k w = square_in all w (rest_of f0 f1 f2 (x_of s k) (y_of s k))

  pub rss-begin : (n : ℕ) (w : Float) → rss_on s all f0 f1 f2 (n - 0) 0 w ≡ rss_on s all f0 f1 f2 n 0 w
  rss-begin n w = from_zero (rss_on s all f0 f1 f2) rss_step n w

  pub rss-step : (n k : ℕ) (w w' r z : Float) → k < n → r ≡ rest_of f0 f1 f2 (x_of s k) (y_of s k) → w' ≡ square_in all w r
      → rss_on s all f0 f1 f2 (n - k) k w ≡ z → rss_on s all f0 f1 f2 (n - (k + 1)) (k + 1) w' ≡ z
  unfolding rss_on
  rss-step n k w w' r z h er ew q =
      ap (rss_on s all f0 f1 f2 (n - (k + 1)) (k + 1)) (ew ∙ ap (square_in all w) er)
      ∙ sym (on (rss_on s all f0 f1 f2) rss_step n (λ d k w. refl) k w h)
      ∙ q

  pub rss-end : (n k : ℕ) (w z : Float) → n ≤ k → rss_on s all f0 f1 f2 (n - k) k w ≡ z → w ≡ z
  unfolding rss_on
  rss-end n k w z h q = sym (done (rss_on s all f0 f1 f2) rss_step n (λ k w. refl) k w h) ∙ q

-- ---- three unknowns
module _ (a : Normal) (v0 v1 v2 : Float) (r : Outcome) (is : r ≡ forward_on 3 3 0 (system_of a v0 v1 v2)) where
  abbrev left : List Float
  left = back_on r.left 3 3 (0d ∷ 0d ∷ 0d ∷ [])

  solved-by : (t : Bool) → r.ok ≡ t → cond t (Some left) None ≡ solved_of a v0 v1 v2
  unfolding solved_of
  solved-by t h = sym (ap (λ (t : Bool). cond t (Some left) None) h) ∙ ap unknowns is

  pub solved-none : r.ok ≡ false → None ≡ solved_of a v0 v1 v2
  solved-none h = solved-by false h

  pub solved-some : (x : List Float) → r.ok ≡ true → x ≡ left → Some x ≡ solved_of a v0 v1 v2
  solved-some x h ex = ap (λ (x : List Float). Some x) ex ∙ solved-by true h

-- ---- the ways of a fit
module _ (s : List Float) (prev : Option Bow) (a : Normal) (is : a ≡ normal_of s prev) where
  abbrev last : Normal → Option (List Float)
  last a = solved_of a 0d 0d 1d

  abbrev bow_from : Normal → Option Bow
  bow_from a = bow_by s prev a.n (solved_of a a.o a.to a.go) (last a)

  many_by : (t : Bool) → ltb a.n 8 ≡ t → cond t None (bow_from a) ≡ bow_of s prev
  unfolding bow_of
  many_by t h =
      ap (λ (t : Bool). cond t None (bow_from a)) (sym h) ∙ ap (λ (a : Normal). cond (ltb a.n 8) None (bow_from a)) is

  pub bow-few : a.n < 8 → None ≡ bow_of s prev
  bow-few h = many_by true (lt-ltb a.n 8 h)

  module _ (many : 8 ≤ a.n) (p : Option (List Float)) (ep : p ≡ solved_of a a.o a.to a.go) where
    bow-is : bow_by s prev a.n p (last a) ≡ bow_of s prev
    bow-is = ap (λ (p : Option (List Float)). bow_by s prev a.n p (last a)) ep ∙ many_by false (le-ltb a.n 8 many)

    pub bow-none : p ≡ None → None ≡ bow_of s prev
    unfolding bow_by
    bow-none h = sym (ap (λ (p : Option (List Float)). bow_by s prev a.n p (last a)) h) ∙ bow-is

    module _ {x : List Float} (hp : p ≡ Some x) (q : Option (List Float)) (eq : q ≡ last a) where
      bow-both : bow_by s prev a.n (Some x) q ≡ bow_of s prev
      bow-both =
          ap (bow_by s prev a.n (Some x)) eq ∙ sym (ap (λ (p : Option (List Float)). bow_by s prev a.n p (last a)) hp) ∙ bow-is

      pub bow-none-2 : q ≡ None → None ≡ bow_of s prev
      unfolding bow_by
      bow-none-2 h = sym (ap (bow_by s prev a.n (Some x)) h) ∙ bow-both

      pub bow-some : {i : List Float} → q ≡ Some i → (r : Bow)
          → r ≡ bow_at s prev a.n (narrow (number_at x 0)) (narrow (number_at x 1)) (narrow (number_at x 2)) (number_at i 2)
          → Some r ≡ bow_of s prev
      unfolding bow_by
      bow-some h r e = ap (λ (b : Bow). Some b) e ∙ sym (ap (bow_by s prev a.n (Some x)) h) ∙ bow-both

-- there is no bow before
pub is-first : (prev : Option Bow) (b : Bool) → is_some prev ≡ not b → b ≡ first_fit prev
unfolding first_fit
is-first (Some p) true h = absurd (let z : ⊥ = cc in z)
is-first (Some p) false h = refl
is-first None true h = refl
is-first None false h = absurd (let z : ⊥ = cc in z)

pub bow-at : (s : List Float) (prev : Option Bow) (n : ℕ) (x y z i f0 f1 f2 w m p e : Float) (b : Bool)
    → f0 ≡ narrow x → f1 ≡ narrow y → f2 ≡ narrow z → is_some prev ≡ not b → w ≡ rss_of s b f0 f1 f2 → p ≡ positive_of i → m ≡ narrow p
    → e ≡ sqrt binary32 (w ⊘ whole_float (n - 3) ⊗ m) → record { c0 = f0; c1 = f1; a = f2; error = e } ≡ bow_at s prev n (narrow x) (narrow y) (narrow z) i
bow-at s prev n x y z i f0 f1 f2 w m p e b ex ey ez eb ew ep em ee = let first = is-first prev b eb in cc

-- ---- two fits
module _ (s : List Float) (first : Option Bow) (is : first ≡ bow_of s None) where
  abbrev refit : Option Bow → Option Bow
  refit f = cond (first_fit f) None (bow_of s f)

  fits-is : refit first ≡ two_fits s
  unfolding two_fits
  fits-is = ap refit is

  pub fits-none : first ≡ None → None ≡ two_fits s
  unfolding first_fit
  fits-none h = sym (ap refit h) ∙ fits-is

  pub fits-two : {b : Bow} (r : Option Bow) → first ≡ Some b → r ≡ bow_of s (Some b) → r ≡ two_fits s
  unfolding first_fit
  fits-two r h q = q ∙ sym (ap refit h) ∙ fits-is
