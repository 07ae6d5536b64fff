-- The best score and the runner-up by one place more, and the ways of a fix. Assumes nothing.
--   best-step, best-end              the best place by one more, and at the end
--   runner-begin, -step, -end        the greatest score elsewhere, at the beginning, by one place more, at the end
--   fixed-none, fixed-some, fix_is   a score without a transform, with one, and by its corners' order
--   choose_yes, choose_no            a score that passes, and one that does not
--   accept-none, accept-some         no scores, and some
use mathlib.Core.Path.{◌≡◌, refl, sym, ap, ◌∙◌}
use mathlib.Core.Bool.{Bool, true, false, cond}
use mathlib.Core.List.{List}
use Prim.Native.Nat.{ℕ, ◌+◌, ◌-◌, ◌%◌, ◌≤◌, ◌<◌}
use native.Mathlib.Nat.{sub-zero}
use borrow.Author.Tests.{eq-eqb, ne_eqb}
use lib.Dec.{eqb}
use lib.Ieee.{Float}
use Rattle.std.specs.Prelude.{Option, Some, None}
use Rattle.ieee.specs.Constants.{0f}
use Rattle.laws.proofs.Steps.{on, done}
use Rattle.transform.specs.declared.Transform.{Transform}
use Rattle.lcr_core.specs.Version.{side_of}
use Rattle.hull.specs.declared.points.Quad.{Quad}
use Rattle.fit.specs.F32.{◌⊖◌}
use Rattle.lens.specs.declared.straight.Lens.{Lens}
use Rattle.search.specs.Geometry.{transform_of}
use Rattle.search.specs.declared.versions.Score.{Score}
use Rattle.search.specs.declared.versions.Scores.{Scores}
use Rattle.accept.specs.Accept.{place_at, later_of, best_on, best_place, other_of, runner_on, runner_of, passes_of, turned_of, fixed_by, fix_of, chosen_of, accept_of}
use Rattle.accept.specs.declared.Fix.{Fix}

-- ---- places
pub best-step : (list : List Score) (n k b b' z : ℕ) → k < n → b' ≡ later_of list b k → best_on list (n - k) k b ≡ z
    → best_on list (n - (k + 1)) (k + 1) b' ≡ z
unfolding best_on
best-step list n k b b' z h e q =
    ap (best_on list (n - (k + 1)) (k + 1)) e ∙ sym (on (best_on list) (λ k b. later_of list b k) n (λ d k b. refl) k b h) ∙ q

pub best-end : (list : List Score) (n k b z : ℕ) → n ≤ k → best_on list (n - k) k b ≡ z → b ≡ z
unfolding best_on
best-end list n k b z h q = sym (done (best_on list) (λ k b. later_of list b k) n (λ k b. refl) k b h) ∙ q

module _ (list : List Score) (best n : ℕ) where
  pub runner-begin : runner_on list best (n - 0) 0 0f ≡ runner_on list best n 0 0f
  runner-begin = ap (λ (d : ℕ). runner_on list best d 0 0f) (sub-zero n)

  pub runner-step : (k : ℕ) (t t' z : Float) → k < n → t' ≡ other_of list best k t → runner_on list best (n - k) k t ≡ z
      → runner_on list best (n - (k + 1)) (k + 1) t' ≡ z
  unfolding runner_on
  runner-step k t t' z h e q =
      ap (runner_on list best (n - (k + 1)) (k + 1)) e ∙ sym (on (runner_on list best) (other_of list best) n (λ d k t. refl) k t h) ∙ q

  pub runner-end : (k : ℕ) (t z : Float) → n ≤ k → runner_on list best (n - k) k t ≡ z → t ≡ z
  unfolding runner_on
  runner-end k t z h q = sym (done (runner_on list best) (other_of list best) n (λ k t. refl) k t h) ∙ q

-- ---- a fix
pub fixed-none : (s : Score) (m : Option Transform) → m ≡ None → None ≡ fixed_by s m
unfolding fixed_by
fixed-none s m e = sym (ap (fixed_by s) e)

pub fixed-some : (s : Score) (m : Option Transform) {t : Transform} → m ≡ Some t
    → Some record { version = s.version; agreement = s.agreement; corner = s.corner; mirrored = s.mirrored; map = t } ≡ fixed_by s m
unfolding fixed_by
fixed-some s m e = sym (ap (fixed_by s) e)

pub fix_is : (q : Quad) (s : Score) (l : Lens) (z : Quad) (side : ℕ) (m : Option Transform) (r : Option Fix) → z ≡ turned_of q (s.corner % 4) s.mirrored
    → side ≡ side_of s.version → m ≡ transform_of z side l → r ≡ fixed_by s m → r ≡ fix_of q s l
unfolding fix_of
fix_is q s l z side m r ez es em er =
    er
    ∙ ap (fixed_by s)
    (em ∙ ap (λ (z : Quad). transform_of z side l) ez
    ∙ ap (λ (n : ℕ). transform_of (turned_of q (s.corner % 4) s.mirrored) n l) es)

module _ (q : Quad) (s : Scores) (best : ℕ) (l : Lens) (relaxed : Bool) (runner : Float) (er : runner ≡ runner_of s best) (b : Bool)
    (eb : b ≡ passes_of (place_at s.list best).agreement ((place_at s.list best).agreement ⊖ runner) relaxed) where
  abbrev top : Score
  top = place_at s.list best

  choose-by : (c : Bool) → b ≡ c → cond c (fix_of q top l) None ≡ chosen_of q s best l relaxed
  unfolding chosen_of
  choose-by c e =
      ap (λ (c : Bool). cond c (fix_of q top l) None)
      (sym e ∙ eb ∙ ap (λ (x : Float). passes_of top.agreement (top.agreement ⊖ x) relaxed) er)

  pub choose_yes : (r : Option Fix) → b ≡ true → r ≡ fix_of q top l → r ≡ chosen_of q s best l relaxed
  choose_yes r e e' = e' ∙ choose-by true e

  pub choose_no : b ≡ false → None ≡ chosen_of q s best l relaxed
  choose_no e = choose-by false e

module _ (q : Quad) (s : Scores) (l : Lens) (relaxed : Bool) where
  accept-by : (b : Bool) → eqb s.many 0 ≡ b → cond b None (chosen_of q s (best_place s) l relaxed) ≡ accept_of q s l relaxed
  unfolding accept_of
  accept-by b e = sym (ap (λ (b : Bool). cond b None (chosen_of q s (best_place s) l relaxed)) e)

  pub accept-none : s.many ≡ 0 → None ≡ accept_of q s l relaxed
  accept-none e = accept-by true (eq-eqb s.many 0 e)

  pub accept-some : (best : ℕ) (r : Option Fix) → (s.many ≡ 0 → ⊥) → best ≡ best_place s → r ≡ chosen_of q s best l relaxed
      → r ≡ accept_of q s l relaxed
  accept-some best r n e er =
      er ∙ ap (λ (k : ℕ). chosen_of q s k l relaxed) e ∙ accept-by false (ne_eqb s.many 0 n)
