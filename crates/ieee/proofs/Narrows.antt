-- The pattern of the f32 nearest to an f64, from the f64's pattern: `narrow_bits` with the sign moved. Assumes nothing.
--   round-at                           the nearest f32 to m * 2 ^ e smallest f64, by its digits and its place
--   kept-le, kept-ge                   how many digits that keeps
--   units-pattern                      its pattern, an overflow's too
--   narrow-finite, narrow-inf          of a finite f64, and of an infinity
--   no-nan-64, no-nan-32, no-nan-pattern-64, narrow-nan        NaNs
use Rattle.std.proofs.Common.{◌≡◌, ℕ, suc, ◌+◌, ◌-◌, ◌*◌, ◌/◌, ◌%◌, ◌^◌, ◌<◌, ◌≤◌, min, Bool, true, false, cond, not, T, ltb, leb, ◌⊎◌, sym, refl, ap, ◌∙◌, subst, inl, inr, le_trans, le_of_eq, lt_of_lt_of_le, mul-le-mul_right, mul_assoc, div-lt_iff_lt-mul, eq-or-lt_of_le, mul-pos, le-div_iff_mul-le, arith, nltb→le, pow_pos, pow_mono, pow-add, shl_lt}
use Prim.Native.Nat.{compare}
use lib.Arith.{le→nltb}
use lib.Ieee.{Float, nan, inf, fin, binary32, binary64, up, down, size, units, odd, round, of_bits, of_fields, to_bits, nan_bits, is_nan, fits}
use lib.Ieee.Digits.{size-le}
use lib.Ieee.Fits.{down_pos, nearest-le, round_is}
use lib.Ieee.Exact.{HasValue}
use lib.Ieee.Nearest.{closest, closest_same, nearest-ge}
use lib.Ieee.Scale.{round_same}
use lib.Ieee.Bits.{cond_no, of_bits-to_bits, nan_bits_is, nan_bits_above}
use Rattle.ieee.specs.Narrow.{narrow}
use Rattle.ieee.specs.Inner.{mant64, expo64, dropped, cut64}
use Rattle.ieee.proofs.Values.{lt-or-ge, size_exact, decode, units-bits}

narrow-value : (x : Float) (s : Bool) (U : ℕ) → HasValue x s U (2 ^ 1074) → narrow x ≡ round binary32 s U (2 ^ 1074)
unfolding narrow
narrow-value nan s U v = absurd v
narrow-value (inf t) s U v = absurd v
narrow-value (fin t m e) s U v =
    ap (λ (b : Bool). round binary32 b (m * up e) (down e)) v.0
    ∙ round_same binary32 s (m * up e) (down e) U (2 ^ 1074) (down_pos e) (pow_pos 1074) v.1

-- ---- m * 2 ^ e, in the `f64`'s smallest values, drops k digits as an `f32`, and t of m's own
module _ (m e k t : ℕ) (small : m < 2 ^ 53) (lead : 0 < k → 2 ^ 52 ≤ m) (is-k : k ≡ e - 896) (is-t : t + e ≡ 925 + k) where
  n-is : m * 2 ^ e * 2 ^ 149 ≡ m * 2 ^ (e + 149)
  n-is = mul_assoc m (2 ^ e) (2 ^ 149) ∙ ap (λ (z : ℕ). m * z) (sym (pow-add 2 e 149))

  size_none : k ≡ 0 → size (m * 2 ^ e * 2 ^ 149 / 2 ^ 1074) - 24 ≡ k
  size_none z =
      let hi : m * 2 ^ e * 2 ^ 149 < 2 ^ 24 * 2 ^ 1074 =
      subst (λ (x : ℕ). x < 2 ^ 24 * 2 ^ 1074) (sym n-is)
      (lt_of_lt_of_le (shl_lt 53 (e + 149) small) (le_trans (pow_mono (few z)) (le_of_eq (pow-add 2 24 1074)))) in
      none (size (m * 2 ^ e * 2 ^ 149 / 2 ^ 1074)) (size-le (m * 2 ^ e * 2 ^ 149 / 2 ^ 1074) 24 ((div-lt_iff_lt-mul (pow_pos 1074)).1 hi)) z
    where
      few : k ≡ 0 → 53 + (e + 149) ≤ 24 + 1074
      few z = omega arith

      none : (y : ℕ) → y ≤ 24 → k ≡ 0 → y - 24 ≡ k
      none y h z = omega arith

  size-some : 0 < k → size (m * 2 ^ e * 2 ^ 149 / 2 ^ 1074) - 24 ≡ k
  size-some p =
      let n = m * 2 ^ e * 2 ^ 149 in
      let lo : 2 ^ (23 + k) * 2 ^ 1074 ≤ n =
      le_trans (le_of_eq (sym (pow-add 2 (23 + k) 1074) ∙ ap (λ (z : ℕ). 2 ^ z) (at-lo p) ∙ pow-add 2 52 (e + 149)))
      (le_trans (mul-le-mul_right (2 ^ (e + 149)) (lead p)) (le_of_eq (sym n-is))) in
      let hi : n < 2 ^ suc (23 + k) * 2 ^ 1074 =
      subst (λ (x : ℕ). x < 2 ^ suc (23 + k) * 2 ^ 1074) (sym n-is)
      (lt_of_lt_of_le (shl_lt 53 (e + 149) small) (le_of_eq (ap (λ (z : ℕ). 2 ^ z) (at-hi p) ∙ pow-add 2 (suc (23 + k)) 1074))) in
      ap (λ (z : ℕ). z - 24)
      (size_exact (23 + k) (n / 2 ^ 1074) ((le-div_iff_mul-le (pow_pos 1074)).1 lo) ((div-lt_iff_lt-mul (pow_pos 1074)).1 hi)) ∙ less k
    where
      at-lo : 0 < k → 23 + k + 1074 ≡ 52 + (e + 149)
      at-lo p = omega arith

      at-hi : 0 < k → 53 + (e + 149) ≡ suc (23 + k) + 1074
      at-hi p = omega arith

      less : (k : ℕ) → suc (23 + k) - 24 ≡ k
      less k = omega arith

  drops : size (m * 2 ^ e * 2 ^ 149 / 2 ^ 1074) - 24 ≡ k
  drops = go (lt-or-ge 0 k)
    where
      zero_of : k ≤ 0 → k ≡ 0
      zero_of h = omega arith

      go : (0 < k) ⊎ (k ≤ 0) → size (m * 2 ^ e * 2 ^ 149 / 2 ^ 1074) - 24 ≡ k
      go (inl p) = size-some p
      go (inr z) = size_none (zero_of z)

  pub round-at : (s : Bool) → round binary32 s (m * 2 ^ e) (2 ^ 1074) ≡ units binary32 s (closest m (2 ^ t)) k
  round-at s =
      let n = m * 2 ^ e * 2 ^ 149 in
      round_is binary32 s (m * 2 ^ e) (2 ^ 1074)
      ∙ ap (λ (z : ℕ). units binary32 s (closest n (2 ^ 1074 * 2 ^ z)) z) drops
      ∙ ap (λ (z : ℕ). units binary32 s z k)
      (closest_same n (2 ^ 1074 * 2 ^ k) m (2 ^ t) (mul-pos (pow_pos 1074) (pow_pos k)) (pow_pos t) cross)
    where
      places : e + 149 + t ≡ 1074 + k
      places = omega arith

      cross : m * 2 ^ e * 2 ^ 149 * 2 ^ t ≡ m * (2 ^ 1074 * 2 ^ k)
      cross = ap (λ (z : ℕ). z * 2 ^ t) n-is ∙ mul_assoc m (2 ^ (e + 149)) (2 ^ t)
          ∙ ap (λ (z : ℕ). m * z) (sym (pow-add 2 (e + 149) t) ∙ ap (λ (z : ℕ). 2 ^ z) places ∙ pow-add 2 1074 k)

  -- what is kept has at most 24 digits, or is 2 ^ 24, and at least 24 where digits are dropped
  pub kept-le : closest m (2 ^ t) ≤ 16777216
  kept-le = le_trans (nearest-le (m / 2 ^ t) (compare (m % 2 ^ t * 2) (2 ^ t)))
      ((div-lt_iff_lt-mul (pow_pos t)).1 (lt_of_lt_of_le small (le_trans (pow_mono enough) (le_of_eq (pow-add 2 24 t)))))
    where
      enough : 53 ≤ 24 + t
      enough = omega arith

  pub kept-ge : 0 < k → 8388608 ≤ closest m (2 ^ t)
  kept-ge p = le_trans
      ((le-div_iff_mul-le (pow_pos t)).1 (le_trans (le_of_eq (sym (pow-add 2 23 t) ∙ ap (λ (z : ℕ). 2 ^ z) (at p))) (lead p)))
      (nearest-ge (m / 2 ^ t) (compare (m % 2 ^ t * 2) (2 ^ t)))
    where
      at : 0 < k → 23 + t ≡ 52
      at p = omega arith

-- ---- a pattern from the infinity's on stands for an overflow
inf_bits : (s : Bool) → inf s ≡ of_bits binary32 (cond s 2147483648 0 + 2139095040)
inf_bits true = unfold of_bits in refl
inf_bits false = unfold of_bits in refl

overflows : (q k : ℕ) → q ≤ 16777216 → (0 < k → 8388608 ≤ q) → 2139095040 ≤ k * 8388608 + q → 2 ^ 277 ≤ q * 2 ^ k
overflows q k h lead p = go (eq-or-lt_of_le h)
  where
    kp : 0 < k
    kp = omega arith

    go : (q ≡ 16777216) ⊎ (q < 16777216) → 2 ^ 277 ≤ q * 2 ^ k
    go (inl e) = subst (λ (q : ℕ). 2 ^ 277 ≤ q * 2 ^ k) (sym e) (le_trans (pow_mono (many e)) (le_of_eq (pow-add 2 24 k)))
      where
        many : q ≡ 16777216 → 277 ≤ 24 + k
        many e = omega arith
    go (inr l) = le_trans (pow_mono (many l)) (le_trans (le_of_eq (pow-add 2 23 k)) (mul-le-mul_right (2 ^ k) (lead kp)))
      where
        many : q < 16777216 → 277 ≤ 23 + k
        many l = omega arith

units-inf : (s : Bool) (q k : ℕ) → 2 ^ 277 ≤ q * 2 ^ k → units binary32 s q k ≡ inf s
unfolding units
units-inf s q k h = cond_no (ltb (q * 2 ^ k) (2 ^ 277)) (odd 25 s q k 149) (inf s) (le→nltb (q * 2 ^ k) (2 ^ 277) h)

pub units-pattern : (s : Bool) (q k : ℕ) → q ≤ 16777216 → (0 < k → 8388608 ≤ q)
    → units binary32 s q k ≡ of_bits binary32 (cond s 2147483648 0 + min (k * 8388608 + q) 2139095040)
units-pattern s q k h lead = go (lt-or-ge (k * 8388608 + q) 2139095040)
  where
    under : (a : ℕ) → a < 2139095040 → a ≡ min a 2139095040
    under a h = omega arith

    over : (a : ℕ) → 2139095040 ≤ a → 2139095040 ≡ min a 2139095040
    over a h = omega arith

    go : (k * 8388608 + q < 2139095040) ⊎ (2139095040 ≤ k * 8388608 + q)
        → units binary32 s q k ≡ of_bits binary32 (cond s 2147483648 0 + min (k * 8388608 + q) 2139095040)
    go (inl l) = units-bits s q k h lead l ∙ ap (λ (z : ℕ). of_bits binary32 (cond s 2147483648 0 + z)) (under (k * 8388608 + q) l)
    go (inr g) = units-inf s q k (overflows q k h lead g) ∙ inf_bits s
        ∙ ap (λ (z : ℕ). of_bits binary32 (cond s 2147483648 0 + z)) (over (k * 8388608 + q) g)

-- ---- the pattern b of an `f64` that is finite, as the code takes it apart
pub narrow-finite : (b : ℕ) → b % 9223372036854775808 < 9218868437227405312
    → narrow (of_bits binary64 b)
    ≡ of_bits binary32 (cond (leb 9223372036854775808 b) 2147483648 0 + min
    (dropped b * 8388608 + closest (mant64 b) (2 ^ cut64 b)) 2139095040)
narrow-finite b h =
    let s = leb 9223372036854775808 b in
    let m = mant64 b in
    let e = expo64 b in
    let k = dropped b in
    let t = cut64 b in
    narrow-value (of_bits binary64 b) s (m * 2 ^ e) (decode binary64 b (inside b h))
    ∙ round-at m e k t (small b) (lead b) refl (places b) s
    ∙ units-pattern s (closest m (2 ^ t)) k (kept-le m e k t (small b) (lead b) refl (places b))
    (kept-ge m e k t (small b) (lead b) refl (places b))
  where
    inside : (b : ℕ) → b % 9223372036854775808 < 9218868437227405312 → b % 9223372036854775808 / 4503599627370496 < 2047
    inside b h = omega arith

    small : (b : ℕ) → mant64 b < 9007199254740992
    small b = omega arith

    lead : (b : ℕ) → 0 < dropped b → 4503599627370496 ≤ mant64 b
    lead b p = omega arith

    places : (b : ℕ) → cut64 b + expo64 b ≡ 925 + dropped b
    places b = omega arith

fields-inf : (s : Bool) (x t : ℕ) → x ≡ 2047 → t ≡ 0 → of_fields binary64 s x t ≡ inf s
fields-inf s x t p q = ap (λ (x : ℕ). of_fields binary64 s x t) p ∙ ap (λ (t : ℕ). of_fields binary64 s 2047 t) q ∙ at
  where
    at : of_fields binary64 s 2047 0 ≡ inf s
    at = unfold of_fields in refl

bits64-is : (b : ℕ) → of_bits binary64 b
    ≡ of_fields binary64 (leb 9223372036854775808 b) (b % 9223372036854775808 / 4503599627370496) (b % 4503599627370496)
unfolding of_bits
bits64-is b = refl

narrow-of-inf : (s : Bool) → narrow (inf s) ≡ inf s
unfolding narrow
narrow-of-inf s = refl

pub narrow-inf : (b : ℕ) → b % 9223372036854775808 ≡ 9218868437227405312
    → narrow (of_bits binary64 b) ≡ of_bits binary32 (cond (leb 9223372036854775808 b) 2147483648 0 + 2139095040)
narrow-inf b h =
    let s = leb 9223372036854775808 b in
    ap narrow (bits64-is b ∙ fields-inf s (b % 9223372036854775808 / 4503599627370496) (b % 4503599627370496) (field b h) (digits b h))
    ∙ narrow-of-inf s ∙ inf_bits s
  where
    field : (b : ℕ) → b % 9223372036854775808 ≡ 9218868437227405312 → b % 9223372036854775808 / 4503599627370496 ≡ 2047
    field b h = omega arith

    digits : (b : ℕ) → b % 9223372036854775808 ≡ 9218868437227405312 → b % 4503599627370496 ≡ 0
    digits b h = omega arith

-- ---- NaNs
pub no-nan-64 : (x : Float) → T (fits binary64 x) → T (not (is_nan x)) → to_bits binary64 x % 9223372036854775808 ≤ 9218868437227405312
no-nan-64 x f n =
    nltb→le 9218868437227405312 (to_bits binary64 x % 9223372036854775808)
    (subst (λ (b : Bool). T (not b))
    (sym (ap is_nan (of_bits-to_bits binary64 x f)) ∙ sym (nan_bits_is binary64 (to_bits binary64 x))
    ∙ nan_bits_above binary64 (to_bits binary64 x)) n)

pub no-nan-32 : (n : ℕ) → n % 2147483648 ≤ 2139095040 → T (not (nan_bits binary32 n))
no-nan-32 n h = subst (λ (b : Bool). T (not b)) (sym (nan_bits_above binary32 n)) (le→nltb 2139095040 (n % 2147483648) h)

pub no-nan-pattern-64 : (n : ℕ) → n % 9223372036854775808 ≤ 9218868437227405312 → T (not (nan_bits binary64 n))
no-nan-pattern-64 n h =
    subst (λ (b : Bool). T (not b)) (sym (nan_bits_above binary64 n)) (le→nltb 9218868437227405312 (n % 9223372036854775808) h)

pub narrow-nan : (x : Float) → x ≡ nan → nan ≡ narrow x
narrow-nan x e = at ∙ ap narrow (sym e)
  where
    at : nan ≡ narrow nan
    at = unfold narrow in refl
