-- A value of a format is its sign and its size: two that fit and have the same are equal. And its bit pattern, from its sign and its size,
-- and back.
--     the bit pattern of a value, from its sign and its size in the format's smallest values: pattern, to_bits-value, value-unique,
--     lt-or-ge
--     how many digits a number has: size_exact
--     a value's digits and its place: pow-back, fits-parts
--     reading a pattern: a finite value is its digits, with the leading one, times a power of two: field, sig, decode
--     writing a pattern: q * 2 ^ k smallest values of an `f32` have the pattern k * 2 ^ 23 + q, with the sign: short-fits, units-bits
-- Assumes nothing.
use Rattle.std.proofs.Common.{◌≡◌, ℕ, zero, suc, ◌+◌, ◌-◌, ◌*◌, ◌/◌, ◌%◌, ◌^◌, ◌<◌, ◌≤◌, min, Bool, true, false, cond, not, ◌&&◌, T, eqb, ltb, leb, ◌⊎◌, ℤ, sym, refl, ap, ◌∙◌, subst, inl, inr, le_trans, le_of_eq, lt_of_lt_of_le, add-zero, add_assoc, lt_irrefl, mul-le-mul_right, mul_comm, add_comm, le_antisymm, eq-or-lt_of_le, lt_of_not-le, mul-zero, mul-one, mul_right_comm, not-le_of_lt, div-one, mul-div_cancel, arith, eqb→eq, ltb→lt, lt→ltb, leb→le, nltb→le, pow_pos, pow_mono, pow-add, shl_lt}
use native.Mathlib.Nat.{mul-div-mul_right}
use lib.Dec.{not_T}
use lib.Pow.{pow-lt}
use lib.Ieee.{Float, nan, inf, fin, Format, prec, low, up, down, size, odd, units, fits, hid, ones, top, of_fields, of_bits, to_bits}
use lib.Ieee.{binary32}
use lib.Ieee.Digits.{size-lt, size-le}
use lib.Ieee.Fits.{and_l, and_r, down_pos, odd-fits}
use lib.Ieee.Bits.{is_true, of_bits-to_bits, cond_no}
use lib.Ieee.Exact.{HasValue, units_val, odd_sign}

-- ---- the bit pattern of a value, from its sign and its size in the format's smallest values
abbrev pub pattern : Format → Bool → ℕ → ℕ
pattern f s n = cond s (top f) 0 + (size n - prec f) * hid f + n / 2 ^ (size n - prec f)

-- a / c in units, from the fraction of `fin`
cross : (m d a c l : ℕ) → 0 < d → 0 < c → m * c ≡ a * d → m * l / d ≡ a * l / c
cross m d a c l D C h =
    sym (mul-div-mul_right (m * l) d C)
    ∙ ap (λ (z : ℕ). z / (d * c)) (mul_right_comm m l c ∙ ap (λ (z : ℕ). z * l) h ∙ mul_right_comm a d l)
    ∙ ap (λ (z : ℕ). a * l * d / z) (mul_comm d c)
    ∙ mul-div-mul_right (a * l) c D

pub to_bits-value : (f : Format) (x : Float) (s : Bool) (a c : ℕ) → 0 < c → HasValue x s a c → to_bits f x ≡ pattern f s (a * 2 ^ low f / c)
unfolding to_bits
to_bits-value f nan s a c C h = absurd h
to_bits-value f (inf t) s a c C h = absurd h
to_bits-value f (fin t m e) s a c C h =
    ap (λ (n : ℕ). pattern f t n) (cross (m * up e) (down e) a c (2 ^ low f) (down_pos e) C h.1)
    ∙ ap (λ (b : Bool). pattern f b (a * 2 ^ low f / c)) h.0

pub value-unique : (f : Format) (x y : Float) (s : Bool) (a c : ℕ) → 0 < c → T (fits f x) → T (fits f y) → HasValue x s a c
    → HasValue y s a c → x ≡ y
value-unique f x y s a c C p q h k =
    sym (of_bits-to_bits f x p)
    ∙ ap (λ (b : ℕ). of_bits f b) (to_bits-value f x s a c C h ∙ sym (to_bits-value f y s a c C k))
    ∙ of_bits-to_bits f y q

pub lt-or-ge : (a b : ℕ) → (a < b) ⊎ (b ≤ a)
lt-or-ge a b = go (ltb a b) (ltb→lt a b) (nltb→le a b)
  where
    go : (t : Bool) → (T t → a < b) → (T (not t) → b ≤ a) → (a < b) ⊎ (b ≤ a)
    go true h k = inl (h tt)
    go false h k = inr (k tt)

-- ---- how many digits a number has
pub size_exact : (a n : ℕ) → 2 ^ a ≤ n → n < 2 ^ suc a → size n ≡ suc a
size_exact a n lo hi =
    le_antisymm (size-le n (suc a) hi)
    (lt_of_not-le (λ (g : size n ≤ a). lt_irrefl n (lt_of_lt_of_le (size-lt n) (le_trans (pow_mono g) lo))))

-- ---- a value's digits and its place
pub pow-back : (a l : ℕ) → 2 ^ a ≤ 2 ^ l → a ≤ l
pow-back a l h = go (lt-or-ge l a)
  where
    go : (l < a) ⊎ (a ≤ l) → a ≤ l
    go (inl g) = absurd (not-le_of_lt (pow-lt g) h)
    go (inr g) = g

pub fits-parts : (s : Bool) (m : ℕ) (e : ℤ) → T (fits binary32 (fin s (suc m) e))
    → (suc m < 2 ^ 24) × (down e ≤ 2 ^ 149) × (suc m * up e < 2 ^ 128 * down e)
unfolding fits
fits-parts s m e f =
    let A = eqb (suc m % 2) 1 in
    let B = ltb (suc m) (2 ^ 24) in
    let C = leb (down e) (2 ^ 149) in
    let D = ltb (suc m * up e) (2 ^ 128 * down e) in
    let g = and_l (A && B && C) D f in (
      ltb→lt (suc m) (2 ^ 24) (and_r A B (and_l (A && B) C g)),
      leb→le (down e) (2 ^ 149) (and_r (A && B) C g),
      ltb→lt (suc m * up e) (2 ^ 128 * down e) (and_r (A && B && C) D f),
    )

-- ---- reading a pattern: a finite value is its digits, with the leading one, times a power of two
abbrev pub field : Format → ℕ → ℕ
field f b = b % top f / hid f

abbrev pub sig : Format → ℕ → ℕ
sig f b = b % hid f + hid f * min (field f b) 1

min-zero-one : (h t : ℕ) → t + h * 0 ≡ t
min-zero-one h t = ap (λ (z : ℕ). t + z) (mul-zero h) ∙ add-zero t

min-suc-one : (x : ℕ) → min (suc x) 1 ≡ 1
min-suc-one x = omega arith

suc-less-one : (x : ℕ) → suc x - 1 ≡ x
suc-less-one x = omega arith

not_top : (a b : ℕ) → a < b → T (not (eqb a b))
not_top a b h = not_T (eqb a b) (λ t. lt_irrefl b (subst (λ (x : ℕ). x < b) (eqb→eq a b t) h))

fields-val : (f : Format) (s : Bool) (x t : ℕ) → x < ones f
    → HasValue (of_fields f s x t) s ((t + hid f * min x 1) * 2 ^ (x - 1)) (2 ^ low f)
unfolding of_fields
fields-val f s zero t h =
    subst (λ (z : ℕ). HasValue (odd (prec f) s t 0 (low f)) s (z * 2 ^ 0) (2 ^ low f)) (sym (min-zero-one (hid f) t))
    (odd_sign (prec f) s t 0 (low f))
fields-val f s (suc x) t h =
    let q : t + hid f * min (suc x) 1 ≡ hid f + t =
    ap (λ (z : ℕ). t + hid f * z) (min-suc-one x) ∙ ap (λ (z : ℕ). t + z) (mul-one (hid f)) ∙ add_comm t (hid f) in
    subst (λ (v : Float). HasValue v s ((t + hid f * min (suc x) 1) * 2 ^ (suc x - 1)) (2 ^ low f))
    (sym (cond_no (eqb (suc x) (ones f)) (cond (eqb t 0) (inf s) nan) (odd (prec f) s (hid f + t) x (low f)) (not_top (suc x) (ones f) h)))
    (subst (λ (z : ℕ). HasValue (odd (prec f) s (hid f + t) x (low f)) s (z * 2 ^ (suc x - 1)) (2 ^ low f)) (sym q)
    (subst (λ (z : ℕ). HasValue (odd (prec f) s (hid f + t) x (low f)) s ((hid f + t) * 2 ^ z) (2 ^ low f)) (sym (suc-less-one x))
    (odd_sign (prec f) s (hid f + t) x (low f))))

pub decode : (f : Format) (b : ℕ) → field f b < ones f → HasValue (of_bits f b) (leb (top f) b) (sig f b * 2 ^ (field f b - 1)) (2 ^ low f)
unfolding of_bits
decode f b h = fields-val f (leb (top f) b) (field f b) (b % hid f) h

-- ---- writing a pattern: q * 2 ^ k smallest values of an `f32` have the pattern k * 2 ^ 23 + q, with the sign
units-odd : (s : Bool) (q k : ℕ) → q * 2 ^ k < 2 ^ 277 → units binary32 s q k ≡ odd 25 s q k 149
unfolding units
units-odd s q k below =
    ap (λ (b : Bool). cond b (odd 25 s q k 149) (inf s)) (is_true (ltb (q * 2 ^ k) (2 ^ 277)) (lt→ltb (q * 2 ^ k) (2 ^ 277) below))

-- what is below the infinity and has few digits is a value of the format
pub short-fits : (s : Bool) (q k : ℕ) → q ≤ 16777216 → q * 2 ^ k < 2 ^ 277 → T (fits binary32 (units binary32 s q k))
short-fits s q k few below =
    let fewer : q < 33554432 = omega arith in
    subst (λ (v : Float). T (fits binary32 v)) (sym (units-odd s q k below)) (odd-fits binary32 25 s q k fewer few below)

-- the digits and the dropped places of q * 2 ^ k
abbrev Cut : ℕ → ℕ → Type 0
Cut n r = (size n - 24) * 8388608 + n / 2 ^ (size n - 24) ≡ r

cut_at : (n z j q r : ℕ) → size n ≡ z → z - 24 ≡ j → n / 2 ^ j ≡ q → j * 8388608 + q ≡ r → Cut n r
cut_at n z j q r a b c d = ap (λ (i : ℕ). i * 8388608 + n / 2 ^ i) (ap (λ (y : ℕ). y - 24) a ∙ b) ∙ ap (λ (y : ℕ). j * 8388608 + y) c ∙ d

cut : (q k : ℕ) → q ≤ 16777216 → (0 < k → 8388608 ≤ q) → Cut (q * 2 ^ k) (k * 8388608 + q)
cut q k h lead = go (lt-or-ge q 8388608) (eq-or-lt_of_le h)
  where
    less-24 : (k : ℕ) → suc (23 + k) - 24 ≡ k
    less-24 k = omega arith

    up_one : (k : ℕ) → 24 + k ≡ suc (23 + k)
    up_one k = omega arith

    one_more : (k : ℕ) → suc (24 + k) - 24 ≡ suc k
    one_more k = omega arith

    none : (z : ℕ) → z ≤ 23 → z - 24 ≡ 0
    none z h = omega arith

    no_lead : q < 8388608 → k ≡ 0
    no_lead l = none' k (λ p. lead p)
      where
        clash : 8388608 ≤ q → q < 8388608 → ⊥
        clash a b = omega arith

        none' : (k : ℕ) → (0 < k → 8388608 ≤ q) → k ≡ 0
        none' zero g = refl
        none' (suc k) g = absurd (clash (g (omega arith)) l)

    go : (q < 8388608) ⊎ (8388608 ≤ q) → (q ≡ 16777216) ⊎ (q < 16777216) → Cut (q * 2 ^ k) (k * 8388608 + q)
    go (inl l) e =
        let k0 : k ≡ 0 = no_lead l in
        subst (λ (k : ℕ). Cut (q * 2 ^ k) (k * 8388608 + q)) (sym k0)
        (cut_at (q * 2 ^ 0) (size (q * 2 ^ 0)) 0 q (0 * 8388608 + q) refl
        (none (size (q * 2 ^ 0)) (size-le (q * 2 ^ 0) 23 (subst (λ (x : ℕ). x < 8388608) (sym (mul-one q)) l)))
        (div-one (q * 2 ^ 0) ∙ mul-one q) refl)
    go (inr g) (inl e) =
        subst (λ (q : ℕ). Cut (q * 2 ^ k) (k * 8388608 + q)) (sym e)
        (cut_at (16777216 * 2 ^ k) (suc (24 + k)) (suc k) 8388608 (k * 8388608 + 16777216)
        (size_exact (24 + k) (16777216 * 2 ^ k) (le_of_eq (pow-add 2 24 k))
        (subst (λ (x : ℕ). x < 2 ^ suc (24 + k)) (pow-add 2 24 k) (pow-lt (omega arith))))
        (one_more k)
        (ap (λ (x : ℕ). x / 2 ^ suc k) (sym (pow-add 2 24 k) ∙ ap (λ (x : ℕ). 2 ^ x) (shift k) ∙ pow-add 2 23 (suc k))
        ∙ mul-div_cancel 8388608 (pow_pos (suc k)))
        (omega arith))
      where
        shift : (k : ℕ) → 24 + k ≡ 23 + suc k
        shift k = omega arith
    go (inr g) (inr l) =
        cut_at (q * 2 ^ k) (suc (23 + k)) k q (k * 8388608 + q)
        (size_exact (23 + k) (q * 2 ^ k) (le_trans (le_of_eq (pow-add 2 23 k)) (mul-le-mul_right (2 ^ k) g))
        (subst (λ (x : ℕ). q * 2 ^ k < 2 ^ x) (up_one k) (shl_lt 24 k l)))
        (less-24 k)
        (mul-div_cancel q (pow_pos k)) refl

-- below an infinity
room : (q k : ℕ) → q ≤ 16777216 → k * 8388608 + q < 2139095040 → (0 < k → 8388608 ≤ q) → q * 2 ^ k < 2 ^ 277
room q k h p lead = go (eq-or-lt_of_le h)
  where
    go : (q ≡ 16777216) ⊎ (q < 16777216) → q * 2 ^ k < 2 ^ 277
    go (inl e) = subst (λ (q : ℕ). q * 2 ^ k < 2 ^ 277) (sym e) (subst (λ (x : ℕ). x < 2 ^ 277) (pow-add 2 24 k) (pow-lt (few e)))
      where
        few : q ≡ 16777216 → 24 + k < 277
        few e = omega arith
    go (inr l) = lt_of_lt_of_le (shl_lt 24 k l) (pow_mono (few (at k lead)))
      where
        at : (j : ℕ) → (0 < j → 8388608 ≤ q) → (j ≡ 0) ⊎ (8388608 ≤ q)
        at zero g = inl refl
        at (suc j) g = inr (g (omega arith))

        few : (k ≡ 0) ⊎ (8388608 ≤ q) → 24 + k ≤ 277
        few (inl z) = omega arith
        few (inr z) = omega arith

pub units-bits : (s : Bool) (q k : ℕ) → q ≤ 16777216 → (0 < k → 8388608 ≤ q) → k * 8388608 + q < 2139095040
    → units binary32 s q k ≡ of_bits binary32 (cond s 2147483648 0 + (k * 8388608 + q))
units-bits s q k h lead p =
    let v = units binary32 s q k in
    let n = q * 2 ^ k in
    let val : HasValue v s n (2 ^ 149) = units_val binary32 s q k (room q k h p lead) in
    sym (of_bits-to_bits binary32 v (short-fits s q k h (room q k h p lead)))
    ∙ ap (λ (b : ℕ). of_bits binary32 b)
    (to_bits-value binary32 v s n (2 ^ 149) (pow_pos 149) val
    ∙ ap (λ (z : ℕ). pattern binary32 s z) (mul-div_cancel n (pow_pos 149))
    ∙ add_assoc (cond s 2147483648 0) ((size n - 24) * 8388608) (n / 2 ^ (size n - 24))
    ∙ ap (λ (z : ℕ). cond s 2147483648 0 + z) (cut q k h lead))
