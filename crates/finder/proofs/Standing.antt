-- Which trace stands: best-begin, best-first, best-more; first-stays, first_goes of two traces; promoted-stays, promoted-back; best-few;
-- trace-is; first-fix-stands.
--     two traces: first-stays, first_goes
--     the promotion: promoted-stays, promoted-back
--     the first n: best-begin, best-first, best-more, best-few, try-is, tries-few, best-end, trace-is
--     the first with a fix: first-fix-stands
-- Assumes nothing.
use mathlib.Core.Path.{◌≡◌, refl, sym, ap, ◌∙◌, subst}
use mathlib.Core.Bool.{Bool, true, false, cond}
use mathlib.Core.List.{List}
use Prim.Native.Nat.{ℕ, zero, suc, ◌+◌, ◌-◌, ◌≤◌, ◌<◌}
use native.Mathlib.Numerals.{add-one}
use native.Mathlib.Omega.{arith}
use lib.Ieee.{lt}
use Rattle.hull.specs.Points.{floats_of}
use Rattle.laws.specs.Plane.{plane}
use Rattle.std.proofs.Common.{None}
use Rattle.ring.specs.Trace.{is_fixed, top_of, better_of, first_of, short_trace, attempt_of}
use Rattle.ring.specs.declared.quads.Trace.{Trace}
use Rattle.finder.specs.Claims.{FirstFixStands}
use Rattle.finder.specs.Find.{tries_of, try_points, try_of, best_trace, promoted_of, trace_of}
use Rattle.ring.proofs.Few.{Few, first-few, short-few, attempt-few}

-- ---- two traces
module _ (t u : Trace) (b : Bool) (eb : b ≡ is_fixed t.fix) where
  first_by : (c : Bool) → b ≡ c → cond c t (better_of t u) ≡ first_of t u
  unfolding first_of
  first_by c e = ap (λ (c : Bool). cond c t (better_of t u)) (sym e ∙ eb)

  pub first-stays : b ≡ true → t ≡ first_of t u
  first-stays e = first_by true e

  pub first_goes : (r v : Trace) → b ≡ false → v ≡ u → r ≡ better_of t v → r ≡ first_of t u
  first_goes r v e ev er = er ∙ ap (better_of t) ev ∙ first_by false e

-- ---- the promotion
module _ (t : Trace) (b : Bool) (eb : b ≡ is_fixed t.fix) where
  abbrev back : Trace
  back = record { hull = t.hull; quad = t.quad; scores = t.scores; fix = t.fallback; fallback = None }

  promoted-by : (c : Bool) → b ≡ c → cond c t back ≡ promoted_of t
  unfolding promoted_of
  promoted-by c e = ap (λ (c : Bool). cond c t back) (sym e ∙ eb)

  pub promoted-stays : b ≡ true → t ≡ promoted_of t
  promoted-stays e = promoted-by true e

  pub promoted-back : b ≡ false → back ≡ promoted_of t
  promoted-back e = promoted-by false e

-- ---- the first n
pub best-begin : (f : ℕ → Trace) (t : Trace) → t ≡ short_trace 0 → t ≡ best_trace f 0
unfolding best_trace
best-begin f t e = e

module _ (f : ℕ → Trace) where
  best-one : best_trace f 1 ≡ f 0
  unfolding best_trace
  best-one = refl

  best-next : (i : ℕ) → (i ≡ 0 → ⊥) → first_of (best_trace f i) (f i) ≡ best_trace f (suc i)
  unfolding best_trace
  best-next zero z = absurd (z refl)
  best-next (suc i) z = refl

  pub best-first : (i : ℕ) (t : Trace) → i ≡ 0 → t ≡ f i → t ≡ best_trace f (i + 1)
  best-first i t z e = e ∙ ap f z ∙ sym best-one ∙ ap (λ (n : ℕ). best_trace f (n + 1)) (sym z)

  pub best-more : (i : ℕ) (t u r : Trace) → (i ≡ 0 → ⊥) → t ≡ best_trace f i → u ≡ f i → r ≡ first_of t u → r ≡ best_trace f (i + 1)
  best-more i t u r z et eu er =
      er ∙ ap (λ (t : Trace). first_of t u) et ∙ ap (first_of (best_trace f i)) eu ∙ best-next i z ∙ ap (best_trace f) (sym (add-one i))

  pub best-few : ((i : ℕ) → Few (f i)) → (n : ℕ) → Few (best_trace f n)
  unfolding best_trace
  best-few all zero = short-few 0
  best-few all (suc zero) = all 0
  best-few all (suc (suc n)) = first-few _ _ (best-few all (suc n)) (all (suc n))

module _ (gray : List ℕ) (w h most : ℕ) where
  pub try-is : (i : ℕ) (L : List (ℕ × ℕ)) (t : Trace) → L ≡ try_points (plane w gray) w h i → t ≡ attempt_of gray w h (floats_of L) most
      → t ≡ try_of gray w h most i
  unfolding try_of
  try-is i L t e et = et ∙ ap (λ (L : List (ℕ × ℕ)). attempt_of gray w h (floats_of L) most) e

  pub tries-few : most ≤ 64 → (i : ℕ) (t : Trace) → t ≡ best_trace (try_of gray w h most) i → Few t
  tries-few top i t e = subst Few (sym e) (best-few (try_of gray w h most) each i)
    where
      each : (i : ℕ) → Few (try_of gray w h most i)
      each i = unfold try_of in attempt-few gray w h most top (floats_of (try_points (plane w gray) w h i))

  pub best-end : (i n : ℕ) (t : Trace) → i ≡ n → n ≡ tries_of (plane w gray) w h → t ≡ best_trace (try_of gray w h most) i
      → t ≡ best_trace (try_of gray w h most) (tries_of (plane w gray) w h)
  best-end i n t e en et = et ∙ ap (best_trace (try_of gray w h most)) (e ∙ en)

  pub trace-is : (t r : Trace) → t ≡ best_trace (try_of gray w h most) (tries_of (plane w gray) w h) → r ≡ promoted_of t
      → r ≡ trace_of gray w h most
  unfolding trace_of
  trace-is t r et er = er ∙ ap promoted_of et

-- ---- the first with a fix
abbrev Open : Trace → Type 0
Open t = is_fixed t.fix ≡ false

cond-open : (b : Bool) (t u : Trace) → Open t → Open u → Open (cond b t u)
cond-open true t u a b = a
cond-open false t u a b = b

first-open : (t u : Trace) → Open t → Open u → Open (first_of t u)
unfolding first_of better_of
first-open t u a b =
    cond-open (is_fixed t.fix) t (cond (is_fixed u.fix) u (cond (lt (top_of t) (top_of u)) u t)) a
    (cond-open (is_fixed u.fix) u (cond (lt (top_of t) (top_of u)) u t) b (cond-open (lt (top_of t) (top_of u)) u t b a))

-- the second with a fix, and the first with one
first-second : (t u : Trace) → Open t → is_fixed u.fix ≡ true → first_of t u ≡ u
unfolding first_of better_of
first-second t u a b =
    ap (λ (c : Bool). cond c t (cond (is_fixed u.fix) u (cond (lt (top_of t) (top_of u)) u t))) a
    ∙ ap (λ (c : Bool). cond c u (cond (lt (top_of t) (top_of u)) u t)) b

first-kept : (t u : Trace) → is_fixed t.fix ≡ true → first_of t u ≡ t
unfolding first_of
first-kept t u a = ap (λ (c : Bool). cond c t (better_of t u)) a

module _ (f : ℕ → Trace) (i : ℕ) (fixed : is_fixed (f i).fix ≡ true) (none : (j : ℕ) → j < i → is_fixed (f j).fix ≡ false) where
  best-open : (n : ℕ) → n < i → Open (best_trace f (suc n))
  unfolding best_trace
  best-open zero l = none 0 l
  best-open (suc n) l = first-open _ _ (best-open n (omega arith)) (none (suc n) l)

  best-at : best_trace f (suc i) ≡ f i
  best-at = go i refl
    where
      go : (m : ℕ) → m ≡ i → best_trace f (suc m) ≡ f m
      go zero e = unfold best_trace in refl
      go (suc m) e =
          unfold best_trace in
          first-second _ _ (best-open m (omega arith)) (ap (λ (k : ℕ). is_fixed (f k).fix) e ∙ fixed)

  best-past : (m : ℕ) → i ≤ m → best_trace f (suc m) ≡ f i
  best-past zero l = let e : i ≡ 0 = omega arith in ap (λ (k : ℕ). best_trace f (suc k)) (sym e) ∙ best-at
  best-past (suc m) l = go (native.Mathlib.Decide.dec_lt m i) (λ k. best-past m k)
    where
      past : best_trace f (suc m) ≡ f i → best_trace f (suc (suc m)) ≡ f i
      past e =
          let z : best_trace f (suc (suc m)) ≡ first_of (best_trace f (suc m)) (f (suc m)) = unfold best_trace in refl in
          z
          ∙ ap (λ (t : Trace). first_of t (f (suc m))) e
          ∙ first-kept (f i) (f (suc m)) fixed

      go : Dec (m < i) → (i ≤ m → best_trace f (suc m) ≡ f i) → best_trace f (suc (suc m)) ≡ f i
      go (yes a) before = let e : suc m ≡ i = omega arith in ap (λ (k : ℕ). best_trace f (suc k)) e ∙ best-at
      go (no a) before = past (before (omega arith))

pub first-fix-stands : FirstFixStands
unfolding FirstFixStands
first-fix-stands f n i l fixed none =
    let e : n ≡ suc (n - 1) = omega arith in ap (best_trace f) e ∙ best-past f i fixed none (n - 1) (omega arith)
