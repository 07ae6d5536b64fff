-- The steps of the code that rounds an f64 to f32. Assumes nothing.
--   closest-below, closest-above, closest-tie, closest-none    a quotient rounded by its remainder
--   assembled                          digits, place and what is kept, put together
--   normal-sum                         a normal result by one sum on the pattern
--   pattern-is                         the pattern of what is no NaN
use Rattle.std.proofs.Common.{◌≡◌, ℕ, ◌+◌, ◌-◌, ◌*◌, ◌/◌, ◌%◌, ◌^◌, ◌<◌, ◌≤◌, min, Bool, true, false, cond, not, T, leb, ◌⊎◌, sym, refl, ap, ◌∙◌, subst, inl, inr, lt_of_lt_of_le, mod-eq_of_lt, le_antisymm, eq-or-lt_of_le, one-mul, add-one, arith, lit<, leb→le, pow_mono, shl_exact}
use native.Mathlib.Nat.{div-eq_of_lt}
use lib.Dec.{nleb→lt}
use lib.Ieee.{Float, binary32, binary64, nearest, of_bits}
use lib.Ieee.Nearest.{closest}
use Rattle.ieee.specs.Narrow.{narrow}
use Rattle.ieee.specs.Inner.{mant64, expo64, dropped, cut64, narrow_bits}
use Rattle.ieee.proofs.Roots.{compare-lt, compare-gt, compare-eq}
use Rattle.ieee.proofs.Values.{lt-or-ge}
use Rattle.ieee.proofs.Narrows.{kept-le, narrow-finite, narrow-inf}

-- ---- the steps of the code
-- the sign's bit, moved
pub sign-moved : (b : ℕ) → b < 18446744073709551616 → b / 9223372036854775808 * 2147483648 ≡ cond (leb 9223372036854775808 b) 2147483648 0
sign-moved b h = go (leb 9223372036854775808 b) (leb→le 9223372036854775808 b) (nleb→lt 9223372036854775808 b)
  where
    go : (s : Bool) → (T s → 9223372036854775808 ≤ b) → (T (not s) → b < 9223372036854775808)
        → b / 9223372036854775808 * 2147483648 ≡ cond s 2147483648 0
    go true y n = let l = y tt in omega arith
    go false y n = let l = n tt in omega arith

pub closest-below : (m d : ℕ) → m % d * 2 < d → m / d ≡ closest m d
closest-below m d h = sym (ap (nearest (m / d)) (compare-lt (m % d * 2) d h))

pub closest-above : (m d : ℕ) → d < m % d * 2 → m / d + 1 ≡ closest m d
closest-above m d h = add-one (m / d) ∙ sym (ap (nearest (m / d)) (compare-gt (m % d * 2) d h))

pub closest-tie : (m d : ℕ) → m % d * 2 ≡ d → m / d + m / d % 2 ≡ closest m d
closest-tie m d h = sym (ap (nearest (m / d)) (compare-eq (m % d * 2) d h))

closest-small : (m d : ℕ) → m * 2 < d → 0 ≡ closest m d
closest-small m d h =
    let l : m < d = omega arith in
    sym (div-eq_of_lt l) ∙ closest-below m d (subst (λ (z : ℕ). z * 2 < d) (sym (mod-eq_of_lt l)) h)

-- more than 54 digits of a number that has 53 are cut off: nothing is left
pub closest-none : (m t : ℕ) → m < 2 ^ 53 → 60 ≤ t → 0 ≡ closest m (2 ^ t)
closest-none m t h g =
    let z : 2 ^ 60 ≤ 2 ^ t = pow_mono g in
    closest-small m (2 ^ t) (lt_of_lt_of_le (few m h) z)
  where
    few : (m : ℕ) → m < 2 ^ 53 → m * 2 < 2 ^ 60
    few m h = omega arith

pub assembled : (b e k m q : ℕ) → e ≡ expo64 b → k ≡ e - 896 → m ≡ mant64 b → q ≡ closest m (2 ^ (925 + k - e))
    → (k ≡ dropped b) × (q ≡ closest (mant64 b) (2 ^ cut64 b)) × (q ≤ 16777216)
assembled b e k m q pe pk pm pq =
    let k-is : k ≡ dropped b = pk ∙ ap (λ (e : ℕ). e - 896) pe in
    let q-is : q ≡ closest (mant64 b) (2 ^ cut64 b) =
    pq ∙ ap (λ (m : ℕ). closest m (2 ^ (925 + k - e))) pm ∙ ap (λ (k : ℕ). closest (mant64 b) (2 ^ (925 + k - e))) k-is
    ∙ ap (λ (e : ℕ). closest (mant64 b) (2 ^ (925 + dropped b - e))) pe in (
      k-is,
      q-is,
      subst (λ (z : ℕ). z ≤ 16777216) (sym q-is)
          (kept-le (mant64 b) (expo64 b) (dropped b) (cut64 b) (small b) (lead b) refl (places b)),
    )
  where
    small : (b : ℕ) → mant64 b < 9007199254740992
    small b = omega arith

    lead : (b : ℕ) → 0 < dropped b → 4503599627370496 ≤ mant64 b
    lead b p = omega arith

    places : (b : ℕ) → cut64 b + expo64 b ≡ 925 + dropped b
    places b = omega arith

pub pattern-in : (b r : ℕ) → r ≤ 2139095040 → (b / 9223372036854775808 * 2147483648 + r) % 2147483648 ≤ 2139095040
pattern-in b r h = omega arith

pub shl_is : (t : ℕ) → t < 60 → (1 * 2 ^ t) % 18446744073709551616 ≡ 2 ^ t
shl_is t h = shl_exact 1 t 64 (lit< tt) (room t h) ∙ one-mul (2 ^ t)
  where
    room : (t : ℕ) → t < 60 → 1 + t ≤ 64
    room t h = omega arith

-- of a normal result 29 places are cut off: a sum that carries rounds to the nearest, a tie to the even one
closest-29 : (m : ℕ) → (m + 268435455 + m / 536870912 % 2) / 536870912 ≡ closest m 536870912
closest-29 m = go (lt-or-ge (m % 536870912 * 2) 536870912) (lt-or-ge 536870912 (m % 536870912 * 2))
  where
    under : (m : ℕ) → m % 536870912 * 2 < 536870912 → (m + 268435455 + m / 536870912 % 2) / 536870912 ≡ m / 536870912
    under m h = omega arith

    over : (m : ℕ) → 536870912 < m % 536870912 * 2 → (m + 268435455 + m / 536870912 % 2) / 536870912 ≡ m / 536870912 + 1
    over m h = omega arith

    tie : (m : ℕ) → m % 536870912 * 2 ≡ 536870912
        → (m + 268435455 + m / 536870912 % 2) / 536870912 ≡ m / 536870912 + m / 536870912 % 2
    tie m h = omega arith

    go : (m % 536870912 * 2 < 536870912) ⊎ (536870912 ≤ m % 536870912 * 2)
        → (536870912 < m % 536870912 * 2) ⊎ (m % 536870912 * 2 ≤ 536870912)
        → (m + 268435455 + m / 536870912 % 2) / 536870912 ≡ closest m 536870912
    go (inl l) r = under m l ∙ closest-below m 536870912 l
    go (inr g) (inl l) = over m l ∙ closest-above m 536870912 l
    go (inr g) (inr l) = let e : m % 536870912 * 2 ≡ 536870912 = le_antisymm l g in tie m e ∙ closest-tie m 536870912 e

-- the sum of the whole pattern a: its exponent's places come along
pub normal-sum : (a : ℕ) → 4039728865751334912 ≤ a → a ≤ 9218868437227405312
    → (a - 4035225266123964416 + 268435455 + a / 536870912 % 2) / 536870912
    ≡ dropped a * 8388608 + closest (mant64 a) (2 ^ cut64 a)
normal-sum a lo hi =
    whole a lo hi
    ∙ ap (λ (z : ℕ). dropped a * 8388608 + z) (closest-29 (mant64 a) ∙ ap (λ (t : ℕ). closest (mant64 a) (2 ^ t)) (sym (cut a lo hi)))
  where
    cut : (a : ℕ) → 4039728865751334912 ≤ a → a ≤ 9218868437227405312 → cut64 a ≡ 29
    cut a lo hi = omega arith

    less : (a k m : ℕ) → a ≡ (k + 896) * 4503599627370496 + m → a - 4035225266123964416 ≡ k * 4503599627370496 + m
    less a k m e = omega arith

    upper : (a k m : ℕ) → a ≡ (k + 896) * 4503599627370496 + m → a / 536870912 ≡ (k + 896) * 8388608 + m / 536870912
    upper a k m e = omega arith

    parity : (a k m p q : ℕ) → p ≡ (k + 896) * 8388608 + q → p % 2 ≡ q % 2
    parity a k m p q e = omega arith

    carried : (k m p : ℕ) → (k * 4503599627370496 + m + 268435455 + p) / 536870912 ≡ k * 8388608 + (m + 268435455 + p) / 536870912
    carried k m p = omega arith

    split : (a k m : ℕ) → a ≡ (k + 896) * 4503599627370496 + m
        → (a - 4035225266123964416 + 268435455 + a / 536870912 % 2) / 536870912
        ≡ k * 8388608 + (m + 268435455 + m / 536870912 % 2) / 536870912
    split a k m e =
        ap (λ (z : ℕ). (z + 268435455 + a / 536870912 % 2) / 536870912) (less a k m e)
        ∙ ap (λ (z : ℕ). (k * 4503599627370496 + m + 268435455 + z) / 536870912)
        (parity a k m (a / 536870912) (m / 536870912) (upper a k m e))
        ∙ carried k m (m / 536870912 % 2)

    parts : (a : ℕ) → 4039728865751334912 ≤ a → a ≤ 9218868437227405312
        → a ≡ (dropped a + 896) * 4503599627370496 + mant64 a
    parts a lo hi = omega arith

    whole : (a : ℕ) → 4039728865751334912 ≤ a → a ≤ 9218868437227405312
        → (a - 4035225266123964416 + 268435455 + a / 536870912 % 2) / 536870912
        ≡ dropped a * 8388608 + (mant64 a + 268435455 + mant64 a / 536870912 % 2) / 536870912
    whole a lo hi = split a (dropped a) (mant64 a) (parts a lo hi)

-- without the sign the digits and the exponent are the same
pub unsigned : (b : ℕ) → narrow_bits (b % 9223372036854775808) ≡ narrow_bits b
unsigned b =
    ap (λ (z : ℕ). min ((z - 1 - 896) * 8388608
    + closest (b % 9223372036854775808 % 4503599627370496 + 4503599627370496 * min z 1) (2 ^ (925 + (z - 1 - 896) - (z - 1)))) 2139095040)
    (field b)
    ∙ ap (λ (z : ℕ). min (dropped b * 8388608
    + closest (z + 4503599627370496 * min (b % 9223372036854775808 / 4503599627370496) 1) (2 ^ cut64 b)) 2139095040)
    (digits b)
  where
    field : (b : ℕ) → b % 9223372036854775808 % 9223372036854775808 / 4503599627370496 ≡ b % 9223372036854775808 / 4503599627370496
    field b = omega arith

    digits : (b : ℕ) → b % 9223372036854775808 % 4503599627370496 ≡ b % 4503599627370496
    digits b = omega arith

abbrev pub Pattern : ℕ → ℕ → Type 0
Pattern b r = (r % 2147483648 ≤ 2139095040) × (of_bits binary32 r ≡ narrow (of_bits binary64 b))

finite-or-inf : (a : ℕ) → a ≤ 9218868437227405312 → (a < 9218868437227405312) ⊎ (a ≡ 9218868437227405312)
finite-or-inf a h = go (eq-or-lt_of_le h)
  where
    go : (a ≡ 9218868437227405312) ⊎ (a < 9218868437227405312) → (a < 9218868437227405312) ⊎ (a ≡ 9218868437227405312)
    go (inl e) = inr e
    go (inr l) = inl l

inf-pattern : narrow_bits 9218868437227405312 ≡ 2139095040
inf-pattern = refl

-- the pattern of what is no NaN, from its sign and `narrow_bits` of the rest
pub pattern-is : (b r : ℕ) → b < 18446744073709551616 → b % 9223372036854775808 ≤ 9218868437227405312
    → r ≡ narrow_bits (b % 9223372036854775808) → Pattern b (b / 9223372036854775808 * 2147483648 + r)
pattern-is b r w h e = (
  pattern-in b r (capped r (dropped (b % 9223372036854775808) * 8388608
      + closest (mant64 (b % 9223372036854775808)) (2 ^ cut64 (b % 9223372036854775808))) e),
  ap (λ (z : ℕ). of_bits binary32 (z + r)) (sign-moved b w) ∙ go (finite-or-inf (b % 9223372036854775808) h),
)
  where
    capped : (r a : ℕ) → r ≡ min a 2139095040 → r ≤ 2139095040
    capped r a e = omega arith

    signed : ℕ → Float
    signed z = of_bits binary32 (cond (leb 9223372036854775808 b) 2147483648 0 + z)

    go : (b % 9223372036854775808 < 9218868437227405312) ⊎ (b % 9223372036854775808 ≡ 9218868437227405312)
        → of_bits binary32 (cond (leb 9223372036854775808 b) 2147483648 0 + r) ≡ narrow (of_bits binary64 b)
    go (inl l) = ap signed (e ∙ unsigned b) ∙ sym (narrow-finite b l)
    go (inr i) = ap signed (e ∙ ap (λ (a : ℕ). narrow_bits a) i ∙ inf-pattern) ∙ sym (narrow-inf b i)
