-- An f64 from 2 ^ -126 up to, but not at, 2 ^ 127 by its pattern, and its rounding to f32 by one sum. Assumes nothing.
--   usual-bits                         the pattern lies between those of the two bounds
--   near-is                            the sum's pattern is that of the nearest f32
--   lt-no-nan-l                        what is below something is no NaN
use Rattle.std.proofs.Common.{◌≡◌, ℕ, ◌+◌, ◌-◌, ◌*◌, ◌/◌, ◌%◌, ◌^◌, ◌<◌, ◌≤◌, Bool, true, false, cond, not, ◌&&◌, T, ltb, leb, pos, negsuc, sym, refl, ap, ◌∙◌, subst, true≢false, le_trans, le_of_eq, lt_of_lt_of_le, mul-le-mul_right, zero-lt-suc, mul_assoc, mul_comm, div-lt_iff_lt-mul, mul-lt-mul_of_pos_right, mul-pos, one-mul, le-div_iff_mul-le, zero-add, mul-one, mul_right_comm, arith, ltb→lt, lt→ltb, nltb→le, pow_pos, pow-add}
use mathlib.Core.Bool.{false≢true}
use lib.Arith.{lt→nleb}
use lib.Ieee.{Float, nan, inf, fin, binary32, binary64, up, down, size, lt, is_nan, of_bits, to_bits}
use lib.Ieee.Digits.{size-lt, size-le, size_reaches}
use lib.Ieee.Fits.{down_pos}
use lib.Ieee.Bits.{is_true, is_false}
use Rattle.ieee.proofs.Helpers.{n_t-of}
use Rattle.ieee.specs.Narrow.{narrow, least32, most32, usual64}
use Rattle.ieee.specs.Inner.{narrow_bits}
use Rattle.ieee.proofs.Values.{to_bits-value, pattern}
use Rattle.ieee.proofs.Narrows.{narrow-finite}

pub lt-no-nan-l : (x y : Float) → lt x y ≡ true → T (not (is_nan x))
unfolding lt is_nan
lt-no-nan-l nan y h = absurd (false≢true h)
lt-no-nan-l (inf s) y h = tt
lt-no-nan-l (fin s m e) y h = tt

-- ---- the pattern of N smallest values, of 949 to 1,201 digits
between : (z : ℕ) → 949 ≤ z → z ≤ 1201 → 53 + (z - 53) ≡ z
between z lo hi = omega arith

lead : (z : ℕ) → 949 ≤ z → 52 + (z - 53) ≡ z - 1
lead z lo = omega arith

size-range : (N : ℕ) → 2 ^ 948 ≤ N → N < 2 ^ 1201 → (949 ≤ size N) × (size N ≤ 1201)
size-range N lo hi = (more (lt-pow (le-lt lo (size-lt N))), size-le N 1201 hi)
  where
    le-lt : {a b c : ℕ} → a ≤ b → b < c → a < c
    le-lt p q = omega arith

    lt-pow : 2 ^ 948 < 2 ^ size N → 948 < size N
    lt-pow h = native.Mathlib.Nat.lt_of_not-le (λ (g : size N ≤ 948). native.Mathlib.Nat.not-le_of_lt h (lib.Pow.pow_mono g))

    more : 948 < size N → 949 ≤ size N
    more h = omega arith

digits-range : (N : ℕ) → 949 ≤ size N → size N ≤ 1201
    → (4503599627370496 ≤ N / 2 ^ (size N - 53)) × (N / 2 ^ (size N - 53) < 9007199254740992)
digits-range N lo hi =
    let z = size N in (
      (le-div_iff_mul-le (pow_pos (z - 53))).1
          (le_trans (le_of_eq (sym (pow-add 2 52 (z - 53)) ∙ ap (λ (k : ℕ). 2 ^ k) (lead z lo))) (size_reaches N (z - 1) (pred z lo))),
      (div-lt_iff_lt-mul (pow_pos (z - 53))).1
          (lt_of_lt_of_le (size-lt N) (le_of_eq (sym (sym (pow-add 2 53 (z - 53)) ∙ ap (λ (k : ℕ). 2 ^ k) (between z lo hi))))),
    )
  where
    pred : (z : ℕ) → 949 ≤ z → z - 1 < z
    pred z h = omega arith

pattern-range : (N : ℕ) → 2 ^ 948 ≤ N → N < 2 ^ 1201
    → (4039728865751334912 ≤ pattern binary64 false N) × (pattern binary64 false N < 5179139571476070400)
pattern-range N lo hi =
    let r = size-range N lo hi in
    let d = digits-range N r.0 r.1 in
    sum (size N) (N / 2 ^ (size N - 53)) r.0 r.1 d.0 d.1
  where
    sum : (z q : ℕ) → 949 ≤ z → z ≤ 1201 → 4503599627370496 ≤ q → q < 9007199254740992
        → (4039728865751334912 ≤ 0 + (z - 53) * 4503599627370496 + q) × (0 + (z - 53) * 4503599627370496 + q < 5179139571476070400)
    sum z q a b c d = omega arith

-- ---- the two tests
T_of : {b : Bool} → b ≡ true → T b
T_of e = subst T (sym e) tt

-- a / d smallest values of a positive fraction a / d
low-side : (a d : ℕ) → 0 < d → 1 * 1 * d ≤ a * 2 ^ 126 → 2 ^ 948 ≤ a * 2 ^ 1074 / d
low-side a d D h =
    (le-div_iff_mul-le D).1
    (le_trans (le_of_eq (mul_comm (2 ^ 948) d))
    (le_trans (mul-le-mul_right (2 ^ 948) (le_trans (le_of_eq (sym (one-mul d))) h))
    (le_of_eq (mul_assoc a (2 ^ 126) (2 ^ 948) ∙ ap (λ (z : ℕ). a * z) (sym (pow-add 2 126 948))))))

high-side : (a d : ℕ) → 0 < d → a * 1 < 1 * 2 ^ 127 * d → a * 2 ^ 1074 / d < 2 ^ 1201
high-side a d D h =
    (div-lt_iff_lt-mul D).1
    (subst (λ (z : ℕ). a * 2 ^ 1074 < z)
    (mul_right_comm (2 ^ 127) d (2 ^ 1074) ∙ ap (λ (z : ℕ). z * d) (sym (pow-add 2 127 1074)))
    (mul-lt-mul_of_pos_right
    (subst (λ (z : ℕ). z < 2 ^ 127 * d) (mul-one a) (subst (λ (z : ℕ). a * 1 < z * d) (one-mul (2 ^ 127)) h)) (pow_pos 1074)))

range-of : (x : Float) → lt x (fin false 1 (negsuc 125)) ≡ false → lt x (fin false 1 (pos 127)) ≡ true
    → (4039728865751334912 ≤ to_bits binary64 x) × (to_bits binary64 x < 5179139571476070400)
unfolding lt
range-of nan p q = absurd (false≢true q)
range-of (inf true) p q = absurd (true≢false p)
range-of (inf false) p q = absurd (false≢true q)
range-of (fin true m e) p q =
    absurd (true≢false (sym (is_true (ltb 0 (m * up e * 2 ^ 126 + 1 * 1 * down e))
    (lt→ltb 0 (m * up e * 2 ^ 126 + 1 * 1 * down e)
    (more (m * up e * 2 ^ 126) (1 * 1 * down e) (mul-pos (zero-lt-suc 0) (down_pos e))))) ∙ p))
  where
    more : (a b : ℕ) → 0 < b → 0 < a + b
    more a b h = omega arith
range-of (fin false m e) p q =
    let a = m * up e in
    let d = down e in
    let lo = low-side a d (down_pos e) (nltb→le (a * 2 ^ 126) (1 * 1 * d) (n_t-of p)) in
    let hi = high-side a d (down_pos e) (ltb→lt (a * 1) (1 * 2 ^ 127 * d) (T_of q)) in
    let is = to_bits-value binary64 (fin false m e) false a d (down_pos e) (refl, refl) in
    subst (λ (b : ℕ). (4039728865751334912 ≤ b) × (b < 5179139571476070400)) (sym is) (pattern-range (a * 2 ^ 1074 / d) lo hi)

bounds-are : (least32 ≡ fin false 1 (negsuc 125)) × (most32 ≡ fin false 1 (pos 127))
unfolding of_bits
bounds-are = (refl, refl)

split : (a b : Bool) → (not a && b) ≡ true → (a ≡ false) × (b ≡ true)
split true b h = absurd (false≢true h)
split false true h = (refl, refl)
split false false h = absurd (false≢true h)

pub usual-parts : (x : Float) → usual64 x ≡ true → (lt x least32 ≡ false) × (lt x most32 ≡ true)
unfolding usual64
usual-parts x h = split (lt x least32) (lt x most32) h

-- the two tests one after the other
pub usual-small : (x : Float) → lt x least32 ≡ true → false ≡ usual64 x
unfolding usual64
usual-small x h = sym (ap (λ (t : Bool). not t && lt x most32) h)

pub usual-else : (x : Float) → lt x least32 ≡ false → lt x most32 ≡ usual64 x
unfolding usual64
usual-else x h = sym (ap (λ (t : Bool). not t && lt x most32) h)

pub usual-bits : (x : Float) → usual64 x ≡ true
    → (4039728865751334912 ≤ to_bits binary64 x) × (to_bits binary64 x < 5179139571476070400)
usual-bits x h =
    let s = usual-parts x h in
    range-of x (ap (lt x) (sym bounds-are.0) ∙ s.0) (ap (lt x) (sym bounds-are.1) ∙ s.1)

pub usual-no-nan : (x : Float) → usual64 x ≡ true → T (not (is_nan x))
usual-no-nan x h = lt-no-nan-l x most32 (usual-parts x h).1

-- ---- the sum's pattern
pub near-is : (b r : ℕ) → 4039728865751334912 ≤ b → b < 5179139571476070400 → r ≡ narrow_bits b
    → of_bits binary32 r ≡ narrow (of_bits binary64 b)
near-is b r lo hi e =
    ap (λ (z : ℕ). of_bits binary32 z) (e ∙ sym (zero-add (narrow_bits b)))
    ∙ ap (λ (t : Bool). of_bits binary32 (cond t 2147483648 0 + narrow_bits b))
    (sym (is_false (leb 9223372036854775808 b) (lt→nleb 9223372036854775808 b (small b hi))))
    ∙ sym (narrow-finite b (finite b hi))
  where
    small : (b : ℕ) → b < 5179139571476070400 → b < 9223372036854775808
    small b h = omega arith

    finite : (b : ℕ) → b < 5179139571476070400 → b % 9223372036854775808 < 9218868437227405312
    finite b h = omega arith
