-- Doubled coordinates of f32 points.
--     twice-big, twice-is, twice-not     twice a number by the code's tests
--     twice-at, twices-tab, fill_end     the numbers of a list one by one, and the list that the loop leaves
--     half-begin, half_step, half-stop   the test of the numbers, one more
--     doubled-refused                    the lent list after a refusal
--     doubled-is                         the claim
-- Assumes nothing.
use mathlib.Core.Path.{◌≡◌, refl, sym, ap, ap₂, ◌∙◌, subst}
use mathlib.Core.Bool.{Bool, true, false, ◌&&◌, cond}
use mathlib.Core.List.Memᴰ
use mathlib.Core.List.{List, [], ◌∷◌, ◌++◌}
use Prim.Native.Nat.{ℕ, zero, suc, ◌+◌, ◌-◌, ◌≤◌, ◌<◌}
use native.Mathlib.Nat.{sub-zero}
use native.Mathlib.Omega.{arith}
use Rattle.std.proofs.Common.{Result, Ok, Err}
use Rattle.std.specs.Result.{IsErr}
use lib.Dec.{leb}
use lib.ListN.{length, get_or, drop, length-map, get_or-map}
use lib.Seq.{ext_get_or}
use lib.IntN.{pos}
use lib.Ieee.{Float, nan, binary32, of_int, eq, to_unsigned}
use borrow.Author.Tests.{le-leb, lt-leb, eq-eqb}
use Rattle.ieee.proofs.Vals.{eq_val, int-val}
use Rattle.ieee.proofs.Wholes.{doubled-val, doubled-cast}
use Rattle.laws.specs.Fold.{tab, written}
use Rattle.laws.proofs.Folds.{length-tab, get_or-tab}
use Rattle.laws.proofs.Stores.{get_d_any}
use Rattle.hull.specs.Points.{half_of, numbers_of, floats_of}
use Rattle.hull.proofs.Exact.{half-val}
use Rattle.laws.specs.Lent.{laid}
use Rattle.refusal.specs.Numbers.{number_of, number_in}
use Rattle.refusal.specs.declared.Refusal.{Refusal}
use Rattle.refusal.proofs.Numbers.{number-some}
use Rattle.doubled.specs.Checks.{coordinates_on, coordinates_of}
use Rattle.doubled.specs.Doubled.{doubled_of, twice_of, twices, doubled_after}
use Rattle.doubled.specs.Claims.{DoubledIs}
use Rattle.doubled.proofs.Checks.{good-step, good-stop}

-- ---- one number
twice-by : (x : Float) (a b : Bool) → leb (to_unsigned 32 (doubled_of x)) 8192 ≡ a
    → eq (of_int binary32 (pos (to_unsigned 32 (doubled_of x)))) (doubled_of x) ≡ b
    → twice_of x ≡ cond (a && b) (to_unsigned 32 (doubled_of x)) 8193
unfolding twice_of
twice-by x a b ea eb = ap₂ (λ (s t : Bool). cond (s && t) (to_unsigned 32 (doubled_of x)) 8193) ea eb

module _ (x : Float) (k : ℕ) (is : k ≡ to_unsigned 32 (doubled_of x)) where
  pub twice-big : 8192 < k → 8193 ≡ twice_of x
  twice-big l = sym (twice-by x false (eq (of_int binary32 (pos (to_unsigned 32 (doubled_of x)))) (doubled_of x))
      (lt-leb (to_unsigned 32 (doubled_of x)) 8192 (omega (arith, is))) refl)

  same : (b : Bool) → eq (of_int binary32 (pos k)) (doubled_of x) ≡ b → eq (of_int binary32 (pos (to_unsigned 32 (doubled_of x)))) (doubled_of x) ≡ b
  same b e = ap (λ (n : ℕ). eq (of_int binary32 (pos n)) (doubled_of x)) (sym is) ∙ e

  pub twice-is : k ≤ 8192 → eq (of_int binary32 (pos k)) (doubled_of x) ≡ true → k ≡ twice_of x
  twice-is l e = is ∙ sym (twice-by x true true (le-leb (to_unsigned 32 (doubled_of x)) 8192 (omega (arith, is))) (same true e))

  pub twice-not : k ≤ 8192 → eq (of_int binary32 (pos k)) (doubled_of x) ≡ false → 8193 ≡ twice_of x
  twice-not l e = sym (twice-by x true false (le-leb (to_unsigned 32 (doubled_of x)) 8192 (omega (arith, is))) (same false e))

-- ---- a list
pub twice-at : (p : List Float) (k : ℕ) → k < length p → get_or (twices p) k 0 ≡ twice_of (get_or p k nan)
twice-at p k l =
    get_d_any (twices p) k 0 (twice_of nan) (subst (λ (n : ℕ). k < n) (sym (length-map p twice_of)) l) ∙ get_or-map twice_of p k nan

twices-tab : (p : List Float) → tab (length p) (λ k. twice_of (get_or p k nan)) ≡ twices p
twices-tab p =
    ext_get_or 0 (tab (length p) (λ k. twice_of (get_or p k nan))) (twices p)
    (length-tab (length p) (λ k. twice_of (get_or p k nan)) ∙ sym (length-map p twice_of))
    (λ i l.
    let h : i < length p = subst (λ (n : ℕ). i < n) (length-tab (length p) (λ k. twice_of (get_or p k nan))) l in
    get_or-tab (length p) (λ k. twice_of (get_or p k nan)) i 0 h ∙ sym (twice-at p i h))

pub fill_end : (p : List Float) (k : ℕ) (old new : List ℕ) → new ≡ written k (λ k. twice_of (get_or p k nan)) old → length p ≤ k → k ≤ length p
    → new ≡ laid (twices p) old
fill_end p k old new e a b =
    let z : k ≡ length p = omega arith in
    e ∙ ap (λ (n : ℕ). written n (λ k. twice_of (get_or p k nan)) old) z
    ∙ ap₂ (λ (l : List ℕ) (n : ℕ). l ++ drop n old) (twices-tab p) (sym (length-map p twice_of))

-- ---- the test of the numbers
pub half-begin : (p : List Float) → coordinates_on (twices p) (length p - 0) 0 ≡ coordinates_of (twices p)
half-begin p = ap (λ (d : ℕ). coordinates_on (twices p) d 0) (sub-zero (length p) ∙ sym (length-map p twice_of))

module _ (p : List Float) (k t : ℕ) (z : Bool) (more : k < length p) (is : t ≡ twice_of (get_or p k nan))
    (q : coordinates_on (twices p) (length p - k) k ≡ z) where
  pub half_step : t ≤ 8192 → coordinates_on (twices p) (length p - (k + 1)) (k + 1) ≡ z
  half_step l = good-step (twices p) (length p) k z more q (subst (λ (n : ℕ). n ≤ 8192) (is ∙ sym (twice-at p k more)) l)

  pub half-stop : 8192 < t → false ≡ z
  half-stop l = good-stop (twices p) (length p) k z more q (subst (λ (n : ℕ). 8192 < n) (is ∙ sym (twice-at p k more)) l)

-- ---- the lent list
pub doubled-refused : {A : Type 0} (r : Result A Refusal) (l : List Float) (old : List ℕ) → IsErr r → old ≡ doubled_after (number_in r) l old
doubled-refused (Ok a) l old e = cc
doubled-refused (Err r) l old e = go (number_of r) (number-some r)
  where
    go : (n : ℕ) → 0 < n → old ≡ doubled_after n l old
    go zero some = absurd (omega arith)
    go (suc n) some = unfold doubled_after in refl

-- ---- halves
twice_half : (n : ℕ) → n ≤ 8192 → twice_of (half_of n) ≡ n
twice_half n l =
    let v = half-val n (omega arith) in
    let k : n ≡ to_unsigned 32 (doubled_of (half_of n)) = sym (doubled-cast (half_of n) n (omega arith) v) in
    sym (twice-is (half_of n) n k l (eq_val (int-val binary32 n (omega arith)) (doubled-val (omega arith) v) ∙ eq-eqb n n refl))

pub doubled-is : DoubledIs
unfolding DoubledIs floats_of numbers_of
doubled-is [] wide = refl
doubled-is (q ∷ L) wide =
    let b = wide q (Memᴰ.head refl) in
    ap₂ (λ (x : ℕ) (l : List ℕ). x ∷ l) (twice_half q.0 b.0)
    (ap₂ (λ (y : ℕ) (l : List ℕ). y ∷ l) (twice_half q.1 b.1) (doubled-is L (λ r m. wide r (Memᴰ.tail m))))
