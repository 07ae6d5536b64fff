-- What the code's tests say.
--     zero, +0 in either format: +0, zero32, zero64
--     `abs`: abs_neg, abs-library
--     `is_finite`: finite-library
--     the sign is the highest bit: sign_bit
--     NaN tests: ne-nan, lt-numbers
--     `max` and `before`, by the tests: max_by, max-by, before_by, before-by
--     float to an unsigned integer: trunc-in, trunc-over, trunc-none, above_minus_one, below_64, trunc-fits
-- Assumes nothing.
use Rattle.std.proofs.Common.{◌≡◌, ℕ, zero, suc, ◌+◌, ◌-◌, ◌*◌, ◌/◌, ◌%◌, ◌^◌, ◌<◌, ◌≤◌, min, Bool, true, false, cond, not, ◌&&◌, ◌||◌, T, eqb, ltb, leb, pos, sym, refl, ap, ◌∙◌, subst, true≢false, lt_of_lt_of_le, mul-le-mul_right, zero-lt-suc, div-lt_iff_lt-mul, mul-le-mul_left, mul-pos, one-mul, le-div_iff_mul-le, zero-mul, mul-one, arith, ltb→lt, lt→ltb, nltb→le, pow_pos, pow_mono}
use native.Mathlib.Nat.{zero-div}
use mathlib.Core.Bool.{false≢true}
use lib.Ieee.{Float, nan, inf, fin, Format, binary32, binary64, prec, hid, ones, top, low, up, down, odd, lt, ne, neg, fits, is_nan}
use lib.Ieee.{of_fields, of_bits, to_bits, to_unsigned}
use lib.Ieee.Fits.{down_pos}
use lib.Ieee.Bits.{of_bits-to_bits}
use lib.Ieee.Casts.{to_unsigned-lt}
use Rattle.std.specs.Float.{float_with_sign, float_is_finite}
use Rattle.ieee.specs.Ops.{abs, sign, finite, max, before}

T_of : {b : Bool} → b ≡ true → T b
T_of e = subst T (sym e) tt

pub n_t-of : {b : Bool} → b ≡ false → T (not b)
n_t-of e = subst (λ (b : Bool). T (not b)) (sym e) tt

-- ---- zero, +0 in either format
abbrev pub +0 : Float
+0 = fin false 0 (pos 0)

pub zero32 : of_bits binary32 0 ≡ +0
unfolding of_bits
zero32 = refl

pub zero64 : of_bits binary64 0 ≡ +0
unfolding of_bits
zero64 = refl

below_none : (a b : ℕ) → ltb a b ≡ true → b ≡ 0 → ⊥
below_none a b h e = let l = ltb→lt a b (T_of h) in omega arith

-- ---- `abs`
pub abs_neg : (x : Float) → lt x +0 ≡ true → neg x ≡ abs x
unfolding lt neg abs
abs_neg nan h = absurd (false≢true h)
abs_neg (inf true) h = refl
abs_neg (inf false) h = absurd (false≢true h)
abs_neg (fin true m e) h = refl
abs_neg (fin false m e) h = absurd (below_none (m * up e * 1) (0 * down e) h (zero-mul (down e)))

pub abs-library : (x : Float) → float_with_sign false x ≡ abs x
unfolding float_with_sign abs
abs-library nan = refl
abs-library (inf s) = refl
abs-library (fin s m e) = refl

-- ---- `is_finite`
pub finite-library : (x : Float) → float_is_finite x ≡ finite x
unfolding float_is_finite finite
finite-library nan = refl
finite-library (inf s) = refl
finite-library (fin s m e) = refl

-- ---- the sign is the highest bit
odd-sign-is : (d : ℕ) (s : Bool) (q k l : ℕ) → sign (odd d s q k l) ≡ s
unfolding odd sign
odd-sign-is d s zero k l = refl
odd-sign-is d s (suc q) k l = refl

fields-sign : (f : Format) (s : Bool) (x t : ℕ) → T (not (is_nan (of_fields f s x t))) → sign (of_fields f s x t) ≡ s
unfolding of_fields
fields-sign f s zero t n = odd-sign-is (prec f) s t 0 (low f)
fields-sign f s (suc x) t n = go (eqb (suc x) (ones f)) (eqb t 0) n
  where
    go : (a b : Bool) → T (not (is_nan (cond a (cond b (inf s) nan) (odd (prec f) s (hid f + t) x (low f)))))
        → sign (cond a (cond b (inf s) nan) (odd (prec f) s (hid f + t) x (low f))) ≡ s
    go true true n = unfold sign in refl
    go true false n = absurd (unfold is_nan in n)
    go false b n = odd-sign-is (prec f) s (hid f + t) x (low f)

bits-sign : (f : Format) (b : ℕ) → T (not (is_nan (of_bits f b))) → sign (of_bits f b) ≡ leb (top f) b
unfolding of_bits
bits-sign f b n = fields-sign f (leb (top f) b) (b % top f / hid f) (b % hid f) n

pub sign_bit : (f : Format) (x : Float) → T (fits f x) → T (not (is_nan x)) → leb (top f) (to_bits f x) ≡ sign x
sign_bit f x t n =
    let e = of_bits-to_bits f x t in
    sym (bits-sign f (to_bits f x) (subst (λ (v : Float). T (not (is_nan v))) (sym e) n)) ∙ ap sign e

-- ---- NaN tests
pub ne-nan : (x : Float) → is_nan x ≡ ne x x
unfolding is_nan ne
ne-nan nan = refl
ne-nan (inf true) = refl
ne-nan (inf false) = refl
ne-nan (fin true m e) = ap not (sym (both (eqb (m * up e * down e) (m * up e * down e)) (lib.Dec.eqb_refl (m * up e * down e))))
  where
    both : (b : Bool) → T b → (b && (true || eqb (m * up e * down e) 0)) ≡ true
    both true t = refl
    both false t = absurd t
ne-nan (fin false m e) = ap not (sym (both (eqb (m * up e * down e) (m * up e * down e)) (lib.Dec.eqb_refl (m * up e * down e))))
  where
    both : (b : Bool) → T b → (b && (true || eqb (m * up e * down e) 0)) ≡ true
    both true t = refl
    both false t = absurd t

pub lt-numbers : (x y : Float) → lt x y ≡ true → (is_nan x ≡ false) × (is_nan y ≡ false)
unfolding lt is_nan
lt-numbers nan y h = absurd (false≢true h)
lt-numbers (inf s) nan h = absurd (false≢true h)
lt-numbers (inf s) (inf t) h = (refl, refl)
lt-numbers (inf s) (fin t n d) h = (refl, refl)
lt-numbers (fin s m e) nan h = absurd (false≢true h)
lt-numbers (fin s m e) (inf t) h = (refl, refl)
lt-numbers (fin s m e) (fin t n d) h = (refl, refl)

-- ---- `max` and `before`, by the tests
abbrev pub max_by : Float → Float → Bool → Bool → Bool → Bool → Bool → Float
max_by x y a b c d e = cond a y (cond b x (cond c y (cond d x (cond e y x))))

pub max-by : (x y : Float) (a b c d e : Bool) → is_nan x ≡ a → is_nan y ≡ b → lt x y ≡ c → lt y x ≡ d → sign x ≡ e
    → max x y ≡ max_by x y a b c d e
unfolding max
max-by x y a b c d e p q r s t = λ i. max_by x y (p i) (q i) (r i) (s i) (t i)

abbrev pub before_by : Bool → Bool → Bool → Bool → Bool → Bool → Bool
before_by a b c d e f = cond a false (cond b true (cond c true (cond d false (e && not f))))

pub before-by : (x y : Float) (a b c d e f : Bool) → is_nan x ≡ a → is_nan y ≡ b → lt x y ≡ c → lt y x ≡ d → sign x ≡ e → sign y ≡ f
    → before x y ≡ before_by a b c d e f
unfolding before
before-by x y a b c d e f p q r s t u = λ i. before_by (p i) (q i) (r i) (s i) (t i) (u i)

-- ---- float to an unsigned integer
pub trunc-in : (w : ℕ) (x : Float) → w ≤ 64 → lt x (fin false 1 (pos w)) ≡ true → to_unsigned 64 x ≡ to_unsigned w x
unfolding lt to_unsigned
trunc-in w nan h k = absurd (false≢true k)
trunc-in w (inf true) h k = refl
trunc-in w (inf false) h k = absurd (false≢true k)
trunc-in w (fin true m e) h k = refl
trunc-in w (fin false m e) h k =
    let v : m * up e / down e < 2 ^ w =
    (div-lt_iff_lt-mul (down_pos e)).1
    (subst (λ (z : ℕ). z < 2 ^ w * down e) (mul-one (m * up e))
    (subst (λ (z : ℕ). m * up e * 1 < z * down e) (one-mul (2 ^ w)) (ltb→lt (m * up e * 1) (1 * 2 ^ w * down e) (T_of k)))) in
    same (m * up e / down e) (2 ^ w) v (pow_mono h)
  where
    same : (v a : ℕ) → v < a → a ≤ 2 ^ 64 → min v (2 ^ 64 - 1) ≡ min v (a - 1)
    same v a h k = omega arith

pub trunc-over : (w : ℕ) (x : Float) → lt +0 x ≡ true → lt x (fin false 1 (pos w)) ≡ false → 2 ^ w - 1 ≡ to_unsigned w x
unfolding lt to_unsigned
trunc-over w nan h k = absurd (false≢true h)
trunc-over w (inf true) h k = absurd (false≢true h)
trunc-over w (inf false) h k = refl
trunc-over w (fin true m e) h k = absurd (false≢true h)
trunc-over w (fin false m e) h k =
    capped (m * up e / down e) (2 ^ w)
    ((le-div_iff_mul-le (down_pos e)).1
    (subst (λ (z : ℕ). 2 ^ w * down e ≤ z) (mul-one (m * up e))
    (subst (λ (z : ℕ). z * down e ≤ m * up e * 1) (one-mul (2 ^ w)) (nltb→le (m * up e * 1) (1 * 2 ^ w * down e) (n_t-of k)))))
  where
    capped : (v a : ℕ) → a ≤ v → a - 1 ≡ min v (a - 1)
    capped v a h = omega arith

pub trunc-none : (w : ℕ) (x : Float) → lt +0 x ≡ false → 0 ≡ to_unsigned w x
unfolding lt to_unsigned
trunc-none w nan h = refl
trunc-none w (inf true) h = refl
trunc-none w (inf false) h = absurd (true≢false h)
trunc-none w (fin true m e) h = refl
trunc-none w (fin false m e) h =
    let z : m * up e ≡ 0 =
    none (m * up e * 1) (0 * down e) (m * up e) (nltb→le (0 * down e) (m * up e * 1) (n_t-of h)) (zero-mul (down e))
    (mul-one (m * up e)) in
    capped (m * up e / down e) (2 ^ w) (ap (λ (v : ℕ). v / down e) z ∙ zero-div (down e))
  where
    none : (a b c : ℕ) → a ≤ b → b ≡ 0 → a ≡ c → c ≡ 0
    none a b c h p q = omega arith

    capped : (v a : ℕ) → v ≡ 0 → 0 ≡ min v (a - 1)
    capped v a h = omega arith

-- what `truncating_f32_to_u64` asks
pub above_minus_one : (x : Float) → lt +0 x ≡ true → T (lt (fin true 1 (pos 0)) x)
unfolding lt
above_minus_one nan h = absurd (false≢true h)
above_minus_one (inf true) h = absurd (false≢true h)
above_minus_one (inf false) h = tt
above_minus_one (fin true m e) h = absurd (false≢true h)
above_minus_one (fin false m e) h =
    lt→ltb 0 (1 * down e + m * up e * 1) (more (1 * down e) (m * up e * 1) (mul-pos (zero-lt-suc 0) (down_pos e)))
  where
    more : (a b : ℕ) → 0 < a → 0 < a + b
    more a b h = omega arith

pub below_64 : (w : ℕ) (x : Float) → w ≤ 64 → lt x (fin false 1 (pos w)) ≡ true → T (lt x (fin false 1 (pos 64)))
unfolding lt
below_64 w nan h k = absurd (false≢true k)
below_64 w (inf true) h k = tt
below_64 w (inf false) h k = absurd (false≢true k)
below_64 w (fin true m e) h k =
    lt→ltb 0 (m * up e * 1 + 1 * 2 ^ 64 * down e) (more (m * up e * 1) (1 * 2 ^ 64 * down e) (mul-pos (pow_pos 64) (down_pos e)))
  where
    more : (a b : ℕ) → 0 < b → 0 < a + b
    more a b h = omega arith
below_64 w (fin false m e) h k =
    lt→ltb (m * up e * 1) (1 * 2 ^ 64 * down e)
    (lt_of_lt_of_le (ltb→lt (m * up e * 1) (1 * 2 ^ w * down e) (T_of k)) (mul-le-mul_right (down e) (mul-le-mul_left 1 (pow_mono h))))

pub trunc-fits : (w : ℕ) (x : Float) → to_unsigned w x < 2 ^ w
trunc-fits w x = to_unsigned-lt w x
