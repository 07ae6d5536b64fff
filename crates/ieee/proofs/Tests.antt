-- What the tests `x != x`, `x > 0.0`, `x == 0.0` and a comparison of bit patterns say of an `f32`.
--     of_bits-zero
--     a test that passed rules a NaN out: lt-no-nan-r, ne-no-nan, no-nan-pattern
--     0 < x: inf-of-bits, pos-bits
--     the root's other cases: sqrt-inf, sqrt-zero, sqrt-else
-- Assumes nothing.
use Rattle.std.proofs.Common.{◌≡◌, ℕ, zero, suc, ◌+◌, ◌*◌, ◌/◌, ◌%◌, ◌<◌, ◌≤◌, Bool, true, false, cond, not, ◌&&◌, ◌||◌, T, eqb, ltb, leb, ◌⊎◌, pos, sym, refl, ap, ◌∙◌, subst, inl, inr, true≢false, lt_irrefl, zero-lt-suc, mul-pos, zero-mul, mul-one, arith, eqb→eq, lt→ltb}
use mathlib.Core.Bool.{beq, false≢true}
use lib.Arith.{le→nltb}
use lib.Ieee.{Float, nan, inf, fin, binary32, up, down, odd, lt, eq, ne, fits, is_nan, of_fields, of_bits, to_bits, nan_bits}
use lib.Ieee.Fits.{up_pos, and_l}
use lib.Ieee.Bits.{of_bits-to_bits, to_bits-lt, nan_bits_above, is_true}
use Rattle.ieee.specs.Root.{sqrt}

pub of_bits-zero : of_bits binary32 0 ≡ fin false 0 (pos 0)
unfolding of_bits
of_bits-zero = refl

-- ---- a test that passed rules a NaN out
pub lt-no-nan-r : (x y : Float) → lt x y ≡ true → T (not (is_nan y))
unfolding lt is_nan
lt-no-nan-r nan nan h = absurd (false≢true h)
lt-no-nan-r (inf s) nan h = absurd (false≢true h)
lt-no-nan-r (fin s m e) nan h = absurd (false≢true h)
lt-no-nan-r x (inf t) h = tt
lt-no-nan-r x (fin t n d) h = tt

pub ne-no-nan : (x : Float) → ne x x ≡ false → T (not (is_nan x))
unfolding ne is_nan
ne-no-nan nan h = absurd (true≢false h)
ne-no-nan (inf s) h = tt
ne-no-nan (fin s m e) h = tt

pub no-nan-pattern : (n : ℕ) → n < 2139095040 → T (not (nan_bits binary32 n))
no-nan-pattern n h =
    subst (λ (b : Bool). T (not b)) (sym (nan_bits_above binary32 n)) (le→nltb 2139095040 (n % 2147483648) (small n h))
  where
    small : (n : ℕ) → n < 2139095040 → n % 2147483648 ≤ 2139095040
    small n h = omega arith

-- ---- 0 < x
odd-neg : (d : ℕ) (q k l : ℕ) → lt (fin false 0 (pos 0)) (odd d true q k l) ≡ false
unfolding lt odd
odd-neg d zero k l = refl
odd-neg d (suc q) k l = refl

fields_neg : (x t : ℕ) → lt (fin false 0 (pos 0)) (of_fields binary32 true x t) ≡ false
unfolding of_fields
fields_neg zero t = odd-neg 24 t 0 149
fields_neg (suc x) t = go (eqb (suc x) 255) (eqb t 0)
  where
    go : (a b : Bool) → lt (fin false 0 (pos 0)) (cond a (cond b (inf true) nan) (odd 24 true (8388608 + t) x 149)) ≡ false
    go true true = unfold lt in refl
    go true false = unfold lt in refl
    go false b = odd-neg 24 (8388608 + t) x 149

fields-top : (x t : ℕ) → x ≡ 255 → (of_fields binary32 false x t ≡ inf false) ⊎ (of_fields binary32 false x t ≡ nan)
fields-top x t e = subst (λ (x : ℕ). (of_fields binary32 false x t ≡ inf false) ⊎ (of_fields binary32 false x t ≡ nan)) (sym e) at
  where
    at : (of_fields binary32 false 255 t ≡ inf false) ⊎ (of_fields binary32 false 255 t ≡ nan)
    at = unfold of_fields in go (eqb t 0)
      where
        go : (b : Bool) → (cond b (inf false) nan ≡ inf false) ⊎ (cond b (inf false) nan ≡ nan)
        go true = inl refl
        go false = inr refl

bits_is : (b : ℕ) → of_bits binary32 b ≡ of_fields binary32 (leb 2147483648 b) (b % 2147483648 / 8388608) (b % 8388608)
unfolding of_bits
bits_is b = refl

lt-nan : (x : Float) → lt x nan ≡ false
unfolding lt
lt-nan nan = refl
lt-nan (inf s) = refl
lt-nan (fin s m e) = refl

-- a pattern from the infinity's on, of a value above 0, is the infinity's
top-inf : (b : ℕ) → b < 4294967296 → 2139095040 ≤ b → lt (fin false 0 (pos 0)) (of_bits binary32 b) ≡ true → of_bits binary32 b ≡ inf false
top-inf b w h p = go (leb 2147483648 b) (λ t. nleb t) refl
  where
    nleb : leb 2147483648 b ≡ false → b < 2147483648
    nleb e = lib.Dec.nleb→lt 2147483648 b (subst (λ (z : Bool). T (not z)) (sym e) tt)

    z : Float
    z = fin false 0 (pos 0)

    go : (s : Bool) → (leb 2147483648 b ≡ false → b < 2147483648) → leb 2147483648 b ≡ s → of_bits binary32 b ≡ inf false
    go true k e = absurd
        (false≢true (sym (fields_neg (b % 2147483648 / 8388608) (b % 8388608))
        ∙ ap (λ (s : Bool). lt z (of_fields binary32 s (b % 2147483648 / 8388608) (b % 8388608))) (sym e)
        ∙ ap (λ (v : Float). lt z v) (sym (bits_is b)) ∙ p))
    go false k e =
        let is : of_bits binary32 b ≡ of_fields binary32 false (b % 2147483648 / 8388608) (b % 8388608) =
        bits_is b ∙ ap (λ (s : Bool). of_fields binary32 s (b % 2147483648 / 8388608) (b % 8388608)) e in
        pick is (fields-top (b % 2147483648 / 8388608) (b % 8388608) (at b h (k e)))
      where
        at : (b : ℕ) → 2139095040 ≤ b → b < 2147483648 → b % 2147483648 / 8388608 ≡ 255
        at b h k = omega arith

        pick : {v : Float} → of_bits binary32 b ≡ v → (v ≡ inf false) ⊎ (v ≡ nan) → of_bits binary32 b ≡ inf false
        pick i (inl q) = i ∙ q
        pick i (inr q) = absurd (false≢true (sym (lt-nan z) ∙ ap (λ (v : Float). lt z v) (sym (i ∙ q)) ∙ p))

pub inf-of-bits : (x : Float) → T (fits binary32 x) → lt (of_bits binary32 0) x ≡ true → 2139095040 ≤ to_bits binary32 x → x ≡ inf false
inf-of-bits x f p h =
    let e = of_bits-to_bits binary32 x f in
    sym e ∙ top-inf (to_bits binary32 x) (to_bits-lt binary32 x f) h
    (ap (λ (v : Float). lt (fin false 0 (pos 0)) v) e ∙ ap (λ (z : Float). lt z x) (sym of_bits-zero) ∙ p)

-- the pattern of a value above 0 is not 0
pub pos-bits : (x : Float) → T (fits binary32 x) → lt (of_bits binary32 0) x ≡ true → 0 < to_bits binary32 x
pos-bits x f p = go (to_bits binary32 x) refl
  where
    same : lt (of_bits binary32 0) (of_bits binary32 0) ≡ false
    same = unfold lt of_bits in refl

    go : (b : ℕ) → to_bits binary32 x ≡ b → 0 < b
    go zero e = absurd (false≢true
        (sym same ∙ ap (λ (v : Float). lt (of_bits binary32 0) v) (ap (λ (b : ℕ). of_bits binary32 b) (sym e) ∙ of_bits-to_bits binary32 x f)
        ∙ p))
    go (suc b) e = zero-lt-suc b

-- ---- the root's other cases
first_pos : (m u : ℕ) → 0 < u → suc m * u ≡ 0 → ⊥
first_pos m u h e = lt_irrefl 0 (subst (λ (z : ℕ). 0 < z) e (mul-pos (zero-lt-suc m) h))

pub sqrt-inf : (x : Float) → x ≡ inf false → x ≡ sqrt binary32 x
sqrt-inf x e = e ∙ at ∙ ap (λ (v : Float). sqrt binary32 v) (sym e)
  where
    at : inf false ≡ sqrt binary32 (inf false)
    at = unfold sqrt in refl

pub sqrt-zero : (x : Float) → eq x (of_bits binary32 0) ≡ true → x ≡ sqrt binary32 x
unfolding eq of_bits sqrt
sqrt-zero nan h = absurd (false≢true h)
sqrt-zero (inf s) h = absurd (false≢true h)
sqrt-zero (fin s zero e) h = refl
sqrt-zero (fin s (suc m) e) h =
    absurd (first_pos m (up e) (up_pos e)
    (sym (mul-one (suc m * up e))
    ∙ eqb→eq (suc m * up e * 1) (0 * down e)
    (and_l (eqb (suc m * up e * 1) (0 * down e)) (beq s false || eqb (suc m * up e * 1) 0) (subst T (sym h) tt))
    ∙ zero-mul (down e)))

pub sqrt-else : (x : Float) → lt (of_bits binary32 0) x ≡ false → eq x (of_bits binary32 0) ≡ false → nan ≡ sqrt binary32 x
unfolding eq lt of_bits sqrt
sqrt-else nan h k = refl
sqrt-else (inf true) h k = refl
sqrt-else (inf false) h k = absurd (true≢false h)
sqrt-else (fin s zero e) h k =
    absurd (true≢false (sym (level-zero s (zero * up e * 1) (0 * down e) (mul-one (zero * up e) ∙ zero-mul (up e)) (zero-mul (down e)))
    ∙ k))
  where
    level-zero : (s : Bool) (a b : ℕ) → a ≡ 0 → b ≡ 0 → (eqb a b && (beq s false || eqb a 0)) ≡ true
    level-zero s a b p q =
        ap (λ (a : ℕ). eqb a b && (beq s false || eqb a 0)) p ∙ ap (λ (b : ℕ). eqb 0 b && (beq s false || eqb 0 0)) q
        ∙ or-true (beq s false)
      where
        or-true : (a : Bool) → (a || true) ≡ true
        or-true true = refl
        or-true false = refl
sqrt-else (fin true (suc m) e) h k = refl
sqrt-else (fin false (suc m) e) h k =
    absurd (true≢false (sym (is_true (ltb (0 * down e) (suc m * up e * 1)) (lt→ltb (0 * down e) (suc m * up e * 1)
    (subst (λ (z : ℕ). z < suc m * up e * 1) (sym (zero-mul (down e))) (mul-pos (mul-pos (zero-lt-suc m) (up_pos e)) (zero-lt-suc 0)))))
    ∙ h))
