-- `isqrt` is the whole part of the root, and `sqrt` of a value is what a rounding by one comparison gives.
--     Root, root-unique, root_to-is, isqrt-is
--     `compare`, from the order: compare-lt, compare-gt, compare-eq
--     the root of M * 4 ^ k, with M of 47 or 48 digits: sq-shift, core, root_at-core, root_at-is, sqrt-is, root_ge, root-24, near-24
--     a positive pattern b is mant b * 2 ^ expo b smallest values: square, mant-pos, value32, root-pattern
--     the steps of the code: start, square-big, k-pos, fourfold
-- Assumes nothing.
use Rattle.std.proofs.Common.{◌≡◌, ℕ, zero, suc, ◌+◌, ◌-◌, ◌*◌, ◌/◌, ◌%◌, ◌^◌, ◌<◌, ◌≤◌, Bool, true, false, cond, not, T, ltb, leb, ◌⊎◌, sym, refl, ap, ◌∙◌, subst, inl, inr, true≢false, le_trans, le_of_eq, lt_of_lt_of_le, lt_irrefl, mul-le-mul_right, zero-lt-suc, mul_assoc, mul_comm, div-lt_iff_lt-mul, add-mul, mul-le-mul, le_antisymm, mul-lt-mul_of_pos_right, mul-pos, pow-suc, le-div_iff_mul-le, zero-add, zero-mul, mul-one, mul-add, mul_right_comm, not-le_of_lt, mul-div_cancel, add-one, arith, lit≤, eqb→eq, ltb→lt, leb→le, nltb→le, pow_pos, pow-add}
use Prim.Native.Nat.{compare, Ordering}
use native.Mathlib.Nat.{pow-le-pow_left, div-eq_of_lt-le, mul-mul-mul_comm}
use lib.Dec.{is_le, compare_is_eq, nleb→lt, eqb_refl}
use lib.Ieee.{Float, nan, inf, fin, binary32, up, down, size, nearest, units, of_bits}
use lib.Ieee.Digits.{size-lt}
use lib.Ieee.Exact.{HasValue}
use lib.Ieee.Fits.{down_pos}
use lib.Ieee.Bits.{is_false}
use lib.Arith.{lt→nleb}
use Rattle.ieee.specs.Root.{root_to, isqrt, root_at, sqrt, near_root}
use Rattle.ieee.specs.Inner.{mant, expo}
use Rattle.ieee.proofs.Values.{lt-or-ge, size_exact, decode, units-bits}

-- r is the whole part of n's root
abbrev pub Root : ℕ → ℕ → Type 0
Root n r = (r * r ≤ n) × (n < (r + 1) * (r + 1))

pub sq-mono : (a b : ℕ) → a ≤ b → a * a ≤ b * b
sq-mono a b h = mul-le-mul h h

root-le : (n r s : ℕ) → r * r ≤ n → n < (s + 1) * (s + 1) → r ≤ s
root-le n r s a b = go (lt-or-ge s r)
  where
    up_to : s < r → s + 1 ≤ r
    up_to l = omega arith

    go : (s < r) ⊎ (r ≤ s) → r ≤ s
    go (inl l) = absurd (not-le_of_lt b (le_trans (sq-mono (s + 1) r (up_to l)) a))
    go (inr l) = l

pub root-unique : (n r s : ℕ) → Root n r → Root n s → r ≡ s
root-unique n r s p q = le_antisymm (root-le n r s p.0 q.1) (root-le n s r q.0 p.1)

sq-even : (r : ℕ) → 2 * r * (2 * r) ≡ r * r * 4
sq-even r = mul-mul-mul_comm 2 r 2 r ∙ mul_comm 4 (r * r)

sq-next : (r : ℕ) → (2 * r + 1 + 1) * (2 * r + 1 + 1) ≡ (r + 1) * (r + 1) * 4
sq-next r = ap (λ (z : ℕ). z * z) (twice r) ∙ sq-even (r + 1)
  where
    twice : (r : ℕ) → 2 * r + 1 + 1 ≡ 2 * (r + 1)
    twice r = omega arith

pub root_to-is : (d n : ℕ) → n < 4 ^ d → Root n (root_to d n)
unfolding root_to
root_to-is zero n h = zero-case n h
  where
    zero-case : (n : ℕ) → n < 1 → (0 ≤ n) × (n < 1)
    zero-case n h = omega arith
root_to-is (suc d) n h =
    let r = root_to d (n / 4) in
    let ih = root_to-is d (n / 4) ((div-lt_iff_lt-mul (zero-lt-suc 3)).1 (subst (λ (x : ℕ). n < x) (pow-suc 4 d) h)) in
    let lo : 2 * r * (2 * r) ≤ n = le_trans (le_of_eq (sq-even r)) ((le-div_iff_mul-le (zero-lt-suc 3)).0 ih.0) in
    let hi : n < (2 * r + 1 + 1) * (2 * r + 1 + 1) =
    subst (λ (x : ℕ). n < x) (sym (sq-next r)) ((div-lt_iff_lt-mul (zero-lt-suc 3)).0 ih.1) in
    go r (leb ((2 * r + 1) * (2 * r + 1)) n) lo hi (leb→le ((2 * r + 1) * (2 * r + 1)) n) (nleb→lt ((2 * r + 1) * (2 * r + 1)) n)
  where
    go : (r : ℕ) (b : Bool) → 2 * r * (2 * r) ≤ n → n < (2 * r + 1 + 1) * (2 * r + 1 + 1) → (T b → (2 * r + 1) * (2 * r + 1) ≤ n)
        → (T (not b) → n < (2 * r + 1) * (2 * r + 1)) → Root n (cond b (2 * r + 1) (2 * r))
    go r true lo hi y n = (y tt, hi)
    go r false lo hi y n = (lo, n tt)

pub isqrt-is : (n : ℕ) → Root n (isqrt n)
unfolding isqrt
isqrt-is n = root_to-is (size n) n (lt_of_lt_of_le (size-lt n) (pow-le-pow_left (lit≤ tt) (size n)))

-- ---- `compare`, from the order
pub compare-lt : (a b : ℕ) → a < b → compare a b ≡ Ordering.lt
compare-lt a b h = go (compare a b) refl (nleb→lt a b) (eqb→eq a b)
  where
    no_eq : a ≡ b → a < b → ⊥
    no_eq e l = omega arith

    no-gt : b < a → a < b → ⊥
    no-gt e l = omega arith

    go : (o : Ordering) → compare a b ≡ o → (T (not (is_le o)) → b < a) → (T (compare_is_eq o) → a ≡ b) → o ≡ Ordering.lt
    go Ordering.lt w g e = refl
    go Ordering.eq w g e = absurd (no_eq (e tt) h)
    go Ordering.gt w g e = absurd (no-gt (g tt) h)

pub compare-gt : (a b : ℕ) → b < a → compare a b ≡ Ordering.gt
compare-gt a b h = go (compare a b) (leb→le a b)
  where
    no_le : a ≤ b → b < a → ⊥
    no_le e l = omega arith

    go : (o : Ordering) → (T (is_le o) → a ≤ b) → o ≡ Ordering.gt
    go Ordering.lt g = absurd (no_le (g tt) h)
    go Ordering.eq g = absurd (no_le (g tt) h)
    go Ordering.gt g = refl

pub compare-eq : (a b : ℕ) → a ≡ b → compare a b ≡ Ordering.eq
compare-eq a b e = subst (λ (b : ℕ). compare a b ≡ Ordering.eq) e (go (compare a a) (eqb_refl a))
  where
    go : (o : Ordering) → T (compare_is_eq o) → o ≡ Ordering.eq
    go Ordering.lt t = absurd t
    go Ordering.eq t = refl
    go Ordering.gt t = absurd t

-- ---- the root of M * 4 ^ k, with M of 47 or 48 digits
pub sq-shift : (q k : ℕ) → q * 2 ^ k * (q * 2 ^ k) ≡ q * q * 2 ^ (2 * k)
sq-shift q k = mul-mul-mul_comm q (2 ^ k) q (2 ^ k) ∙ ap (λ (z : ℕ). q * q * z) (sym (pow-add 2 k k) ∙ ap (λ (z : ℕ). 2 ^ z) (both k))
  where
    both : (k : ℕ) → k + k ≡ 2 * k
    both k = omega arith

-- the whole part w of the root of M * 4 ^ k lies from q * 2 ^ k up to, but not at, (q + 1) * 2 ^ k
root-lo : (M k q w : ℕ) → Root M q → Root (M * 2 ^ (2 * k)) w → q * 2 ^ k ≤ w
root-lo M k q w p r =
    root-le (M * 2 ^ (2 * k)) (q * 2 ^ k) w (le_trans (le_of_eq (sq-shift q k)) (mul-le-mul_right (2 ^ (2 * k)) p.0)) r.1

root-hi : (M k q w : ℕ) → Root M q → Root (M * 2 ^ (2 * k)) w → w < (q + 1) * 2 ^ k
root-hi M k q w p r = go (lt-or-ge w ((q + 1) * 2 ^ k))
  where
    go : (w < (q + 1) * 2 ^ k) ⊎ ((q + 1) * 2 ^ k ≤ w) → w < (q + 1) * 2 ^ k
    go (inl l) = l
    go (inr g) =
        absurd (not-le_of_lt (mul-lt-mul_of_pos_right p.1 (pow_pos (2 * k)))
        (le_trans (le_of_eq (sym (sq-shift (q + 1) k))) (le_trans (sq-mono ((q + 1) * 2 ^ k) w g) r.0)))

root-cut : (M k q w : ℕ) → Root M q → Root (M * 2 ^ (2 * k)) w → w / 2 ^ k ≡ q
root-cut M k q w p r = div-eq_of_lt-le (2 ^ k) (root-lo M k q w p r) (root-hi M k q w p r)

root-size : (M k q w : ℕ) → 8388608 ≤ q → q < 16777216 → Root M q → Root (M * 2 ^ (2 * k)) w → size w - 24 ≡ k
root-size M k q w a b p r =
    ap (λ (z : ℕ). z - 24)
    (size_exact (23 + k) w
    (le_trans (le_of_eq (pow-add 2 23 k)) (le_trans (mul-le-mul_right (2 ^ k) a) (root-lo M k q w p r)))
    (lt_of_lt_of_le (root-hi M k q w p r)
    (le_trans (mul-le-mul_right (2 ^ k) (next b)) (le_of_eq (sym (pow-add 2 24 k) ∙ ap (λ (z : ℕ). 2 ^ z) (up_one k))))))
    ∙ less-24 k
  where
    next : q < 16777216 → q + 1 ≤ 16777216
    next h = omega arith

    up_one : (k : ℕ) → 24 + k ≡ suc (23 + k)
    up_one k = omega arith

    less-24 : (k : ℕ) → suc (23 + k) - 24 ≡ k
    less-24 k = omega arith

-- (2 * q + 1) squared is odd, so 4 * M is below it or above it, and that is by how M compares with q * q + q
odd-sq : (q : ℕ) → (2 * q + 1) * (2 * q + 1) ≡ 4 * (q * q + q) + 1
odd-sq q = omega (arith, mul-add (2 * q + 1) (2 * q) 1, add-mul (2 * q) 1 (2 * q), sq-even q)

-- the middle between q and q + 1, squared, against M, both times c
near : (M q c : ℕ) → 0 < c → nearest q (compare (4 * M * c) ((2 * q + 1) * (2 * q + 1) * c)) ≡ cond (ltb (q * q + q) M) (q + 1) q
near M q c C = go (ltb (q * q + q) M) (ltb→lt (q * q + q) M) (nltb→le (q * q + q) M)
  where
    above : q * q + q < M → (2 * q + 1) * (2 * q + 1) < 4 * M
    above h = omega (arith, odd-sq q)

    below : M ≤ q * q + q → 4 * M < (2 * q + 1) * (2 * q + 1)
    below h = omega (arith, odd-sq q)

    go : (b : Bool) → (T b → q * q + q < M) → (T (not b) → M ≤ q * q + q)
        → nearest q (compare (4 * M * c) ((2 * q + 1) * (2 * q + 1) * c)) ≡ cond b (q + 1) q
    go true y n =
        ap (λ (o : Ordering). nearest q o)
        (compare-gt (4 * M * c) ((2 * q + 1) * (2 * q + 1) * c) (mul-lt-mul_of_pos_right (above (y tt)) C)) ∙ sym (add-one q)
    go false y n = ap (λ (o : Ordering). nearest q o)
        (compare-lt (4 * M * c) ((2 * q + 1) * (2 * q + 1) * c) (mul-lt-mul_of_pos_right (below (n tt)) C))

-- `root_at` from its n, its whole part w and its k on
abbrev pub core : ℕ → ℕ → ℕ → ℕ → Float
core n den w k = units binary32 false
    (nearest (w / 2 ^ k) (compare (4 * n) ((2 * (w / 2 ^ k) + 1) * (2 * (w / 2 ^ k) + 1) * (2 ^ (2 * k) * den)))) k

pub root_at-core : (num den : ℕ)
    → root_at binary32 num den ≡ core (num * 2 ^ 298) den (isqrt (num * 2 ^ 298 / den)) (size (isqrt (num * 2 ^ 298 / den)) - 24)
unfolding root_at
root_at-core num den = refl

pub root_at-is : (num den U M k q : ℕ) → 0 < den → num * 2 ^ 149 ≡ U * den → M * 2 ^ (2 * k) ≡ U * 2 ^ 149 → Root M q → 8388608 ≤ q
    → q < 16777216
    → root_at binary32 num den ≡ units binary32 false (cond (ltb (q * q + q) M) (q + 1) q) k
root_at-is num den U M k q D h g p a b =
    let N = M * 2 ^ (2 * k) in
    let n = num * 2 ^ 298 in
    let e : n ≡ N * den =
    sym (mul_assoc num (2 ^ 149) (2 ^ 149)) ∙ ap (λ (z : ℕ). z * 2 ^ 149) h ∙ mul_right_comm U den (2 ^ 149)
    ∙ ap (λ (z : ℕ). z * den) (sym g) in
    let w = isqrt N in
    let r : Root N w = isqrt-is N in
    root_at-core num den
    ∙ ap (λ (z : ℕ). core n den (isqrt z) (size (isqrt z) - 24)) (ap (λ (z : ℕ). z / den) e ∙ mul-div_cancel N D)
    ∙ ap (λ (z : ℕ). core n den w z) (root-size M k q w a b p r)
    ∙ ap (λ (z : ℕ). units binary32 false (nearest z (compare (4 * n) ((2 * z + 1) * (2 * z + 1) * (2 ^ (2 * k) * den)))) k)
    (root-cut M k q w p r)
    ∙ ap (λ (z : ℕ). units binary32 false (nearest q (compare z ((2 * q + 1) * (2 * q + 1) * (2 ^ (2 * k) * den)))) k)
    (ap (λ (z : ℕ). 4 * z) (e ∙ mul_assoc M (2 ^ (2 * k)) den) ∙ sym (mul_assoc 4 M (2 ^ (2 * k) * den)))
    ∙ ap (λ (z : ℕ). units binary32 false z k) (near M q (2 ^ (2 * k) * den) (mul-pos (pow_pos (2 * k)) D))

pub sqrt-is : (x : Float) (U M k q : ℕ) → HasValue x false U (2 ^ 149) → 0 < U → M * 2 ^ (2 * k) ≡ U * 2 ^ 149 → Root M q → 8388608 ≤ q
    → q < 16777216
    → sqrt binary32 x ≡ units binary32 false (cond (ltb (q * q + q) M) (q + 1) q) k
unfolding sqrt
sqrt-is nan U M k q v u g p a b = absurd v
sqrt-is (inf s) U M k q v u g p a b = absurd v
sqrt-is (fin s zero e) U M k q v u g p a b =
    absurd (lt_irrefl 0 (subst (λ (z : ℕ). 0 < z) (sym v.1 ∙ ap (λ (z : ℕ). z * 2 ^ 149) (zero-mul (up e)) ∙ zero-mul (2 ^ 149))
    (mul-pos u (down_pos e))))
sqrt-is (fin true (suc m) e) U M k q v u g p a b = absurd (true≢false v.0)
sqrt-is (fin false (suc m) e) U M k q v u g p a b = root_at-is (suc m * up e) (down e) U M k q (down_pos e) v.1 g p a b

pub root_ge : (n q a : ℕ) → a * a ≤ n → Root n q → a ≤ q
root_ge n q a h p = root-le n a q h p.1

root-lt : (n q a : ℕ) → n < a * a → Root n q → q < a
root-lt n q a h p = go (lt-or-ge q a)
  where
    go : (q < a) ⊎ (a ≤ q) → q < a
    go (inl l) = l
    go (inr g) = absurd (not-le_of_lt h (le_trans (sq-mono a q g) p.0))

pub root-24 : (n : ℕ) → 70368744177664 ≤ n → n < 281474976710656 → (8388608 ≤ isqrt n) × (isqrt n < 16777216)
root-24 n a b = (root_ge n (isqrt n) 8388608 a (isqrt-is n), root-lt n (isqrt n) 16777216 b (isqrt-is n))

pub near-24 : (n : ℕ) → 70368744177664 ≤ n → n < 281474976710656 → (8388608 ≤ near_root n) × (near_root n ≤ 16777216)
near-24 n a b = go (ltb (isqrt n * isqrt n + isqrt n) n) (root-24 n a b)
  where
    go : (t : Bool) → (8388608 ≤ isqrt n) × (isqrt n < 16777216)
        → (8388608 ≤ cond t (isqrt n + 1) (isqrt n)) × (cond t (isqrt n + 1) (isqrt n) ≤ 16777216)
    go true h = omega arith
    go false h = omega arith

-- ---- a positive pattern b is mant b * 2 ^ expo b smallest values
-- the square of its root, in those
abbrev pub square : ℕ → ℕ
square b = mant b * 2 ^ expo b * 2 ^ 149

pub mant-pos : (b : ℕ) → 0 < b → b < 2139095040 → 0 < mant b
mant-pos b p h = omega arith

pub value32 : (b : ℕ) → b < 2139095040 → HasValue (of_bits binary32 b) false (mant b * 2 ^ expo b) (2 ^ 149)
value32 b h =
    subst (λ (s : Bool). HasValue (of_bits binary32 b) s (mant b * 2 ^ expo b) (2 ^ 149))
    (is_false (leb 2147483648 b) (lt→nleb 2147483648 b (below b h))) (decode binary32 b (inside b h))
  where
    below : (b : ℕ) → b < 2139095040 → b < 2147483648
    below b h = omega arith

    inside : (b : ℕ) → b < 2139095040 → b % 2147483648 / 8388608 < 255
    inside b h = omega arith

pub root-pattern : (b n k r : ℕ) → 0 < b → b < 2139095040 → n * 2 ^ (2 * k) ≡ square b → 70368744177664 ≤ n → n < 281474976710656 → k ≤ 200
    → r ≡ near_root n
    → (k * 8388608 + r < 2139095040) × (of_bits binary32 (k * 8388608 + r) ≡ sqrt binary32 (of_bits binary32 b))
root-pattern b n k r p h g lo hi small e =
    let w = near-24 n lo hi in
    let z = root-24 n lo hi in
    let fine : k * 8388608 + near_root n < 2139095040 = room k (near_root n) small w.1 in
    subst (λ (r : ℕ). (k * 8388608 + r < 2139095040) × (of_bits binary32 (k * 8388608 + r) ≡ sqrt binary32 (of_bits binary32 b))) (sym e) (
      fine,
      ap (λ (y : ℕ). of_bits binary32 y) (sym (zero-add (k * 8388608 + near_root n)))
          ∙ sym (units-bits false (near_root n) k w.1 (λ _. w.0) fine)
          ∙ sym (sqrt-is (of_bits binary32 b) (mant b * 2 ^ expo b) n k (isqrt n) (value32 b h)
          (mul-pos (mant-pos b p h) (pow_pos (expo b))) g
          (isqrt-is n) z.0 z.1),
    )
  where
    room : (k q : ℕ) → k ≤ 200 → q ≤ 16777216 → k * 8388608 + q < 2139095040
    room k q a b = omega arith

-- ---- the steps of the code
pub start : (b m p : ℕ) → m ≡ mant b → p ≡ expo b + 149
    → m * (1 + (p + 1) % 2) * 8388608 * 2 ^ (2 * ((p + 1) / 2 - 12)) ≡ square b
start b m p em ep =
    let h = (p + 1) / 2 in
    let r = (p + 1) % 2 in
    ap (λ (z : ℕ). m * z * 8388608 * 2 ^ (2 * (h - 12))) (parity r (less (p + 1)))
    ∙ mul_assoc (m * 2 ^ r) 8388608 (2 ^ (2 * (h - 12)))
    ∙ ap (λ (z : ℕ). m * 2 ^ r * z) (sym (pow-add 2 23 (2 * (h - 12))) ∙ ap (λ (z : ℕ). 2 ^ z) (whole h (big p ep)))
    ∙ mul_assoc m (2 ^ r) (2 ^ (2 * h - 1))
    ∙ ap (λ (z : ℕ). m * z) (sym (pow-add 2 r (2 * h - 1)) ∙ ap (λ (z : ℕ). 2 ^ z) (again p (big p ep) ∙ ep) ∙ pow-add 2 (expo b) 149)
    ∙ ap (λ (z : ℕ). z * (2 ^ expo b * 2 ^ 149)) em
    ∙ sym (mul_assoc (mant b) (2 ^ expo b) (2 ^ 149))
  where
    less : (p : ℕ) → p % 2 < 2
    less p = omega arith

    parity : (r : ℕ) → r < 2 → 1 + r ≡ 2 ^ r
    parity zero h = refl
    parity (suc zero) h = refl
    parity (suc (suc r)) h = absurd (no r h)
      where
        no : (r : ℕ) → suc (suc r) < 2 → ⊥
        no r h = omega arith

    big : (p : ℕ) → p ≡ expo b + 149 → 12 ≤ (p + 1) / 2
    big p h = omega arith

    whole : (h : ℕ) → 12 ≤ h → 23 + 2 * (h - 12) ≡ 2 * h - 1
    whole h g = omega arith

    again : (p : ℕ) → 12 ≤ (p + 1) / 2 → (p + 1) % 2 + (2 * ((p + 1) / 2) - 1) ≡ p
    again p g = omega arith

pub square-big : (b : ℕ) → 0 < b → b < 2139095040 → 70368744177664 ≤ square b
square-big b p h = le_trans (lit≤ tt) (mul-le-mul_right (2 ^ 149) (mul-pos (mant-pos b p h) (pow_pos (expo b))))

pub k-pos : (n k N : ℕ) → n * 2 ^ (2 * k) ≡ N → n < 70368744177664 → 70368744177664 ≤ N → 0 < k
k-pos n zero N e l g = absurd (no (sym (mul-one n) ∙ e))
  where
    no : n ≡ N → ⊥
    no e = omega arith
k-pos n (suc k) N e l g = zero-lt-suc k

pub fourfold : (n k : ℕ) → 0 < k → n * 4 * 2 ^ (2 * (k - 1)) ≡ n * 2 ^ (2 * k)
fourfold n k h = mul_assoc n 4 (2 ^ (2 * (k - 1)))
    ∙ ap (λ (z : ℕ). n * z) (sym (pow-add 2 2 (2 * (k - 1))) ∙ ap (λ (z : ℕ). 2 ^ z) (up k h))
  where
    up : (k : ℕ) → 0 < k → 2 + 2 * (k - 1) ≡ 2 * k
    up k h = omega arith
