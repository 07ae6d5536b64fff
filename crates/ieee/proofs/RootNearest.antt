-- `sqrt` gives the nearest `f32`: with the values in units of 2 ^ -149, x of X units, its root y of Y and any other z ≥ 0 of the format of
-- Z, the root lies on y's side of the middle of y and z: 4 * X * 2 ^ 149 is at most (Y + Z) squared where Y < Z, and at least that where Z
-- < Y. Assumes nothing.
use Rattle.std.proofs.Common.{◌≡◌, ℕ, zero, suc, ◌+◌, ◌-◌, ◌*◌, ◌/◌, ◌%◌, ◌^◌, ◌<◌, ◌≤◌, true, false, T, ◌⊎◌, ℤ, pos, negsuc, sym, refl, ap, ◌∙◌, subst, inl, inr, true≢false, le_trans, le_of_eq, le_refl, lt_of_lt_of_le, lt_of_le_of_lt, le_of_lt, add-le-add, lt_irrefl, mul-le-mul_right, mul_assoc, div-lt_iff_lt-mul, add-mul, mul-le-mul, le_antisymm, lt_of_mul-lt-mul_right, mul-lt-mul_of_pos_right, mul-pos, mul-one, mul_right_comm, not-le_of_lt, div-mul-le_self, mul-div_cancel, add-one, arith, lit≤, pow_pos, pow_mono, pow-add}
use Prim.Native.Nat.{compare, Ordering}
use native.Mathlib.Nat.{eq_of_mul-eq-mul_right, mul-mul-mul_comm}
use native.Mathlib.Nat.{lt-div-mul-add}
use lib.Pow.{pow-lt}
use lib.Ieee.{Float, nan, inf, fin, binary32, up, down, size, nearest, units, fits}
use lib.Ieee.Digits.{size-lt, size-le, size_reaches}
use lib.Ieee.Fits.{nearest-le, down_pos}
use lib.Ieee.Exact.{HasValue, units_val}
use Rattle.ieee.specs.Claims.{Nearest, RootNearest}
use Rattle.ieee.specs.Root.{isqrt, root_at, sqrt}
use Rattle.ieee.proofs.Grid.{above-grid, below-grid}
use Rattle.ieee.proofs.Values.{pow-back, fits-parts, short-fits, lt-or-ge}
use Rattle.ieee.proofs.Roots.{sq-shift, isqrt-is, compare-lt, compare-gt, compare-eq, core, root_at-core, root_ge}

-- ---- which way the middle went
settled : (a b q : ℕ) → ((nearest q (compare a b) ≡ q) × (a ≤ b)) ⊎ ((nearest q (compare a b) ≡ q + 1) × (b ≤ a))
settled a b q = go (lt-or-ge a b) (lt-or-ge b a)
  where
    even : (r : ℕ) → q % 2 ≡ r → r < 2 → (q + q % 2 ≡ q) ⊎ (q + q % 2 ≡ q + 1)
    even zero e h = inl (omega arith)
    even (suc zero) e h = inr (omega arith)
    even (suc (suc r)) e h = absurd (no h)
      where
        no : suc (suc r) < 2 → ⊥
        no h = omega arith

    rest : (q : ℕ) → q % 2 < 2
    rest q = omega arith

    tie : a ≡ b → (q + q % 2 ≡ q) ⊎ (q + q % 2 ≡ q + 1)
        → ((nearest q (compare a b) ≡ q) × (a ≤ b)) ⊎ ((nearest q (compare a b) ≡ q + 1) × (b ≤ a))
    tie e (inl x) = inl (ap (nearest q) (compare-eq a b e) ∙ x, le_of_eq e)
    tie e (inr x) = inr (ap (nearest q) (compare-eq a b e) ∙ x, le_of_eq (sym e))

    go : (a < b) ⊎ (b ≤ a) → (b < a) ⊎ (a ≤ b) → ((nearest q (compare a b) ≡ q) × (a ≤ b)) ⊎ ((nearest q (compare a b) ≡ q + 1) × (b ≤ a))
    go (inl l) y = inl (ap (nearest q) (compare-lt a b l), le_of_lt l)
    go (inr g) (inl l) = inr (ap (nearest q) (compare-gt a b l) ∙ sym (add-one q), g)
    go (inr g) (inr f) = tie (le_antisymm f g) (even (q % 2) refl (rest q))

-- ---- the theorem on numbers: N is the square of the root, q * 2 ^ k its kept digits, Y = p * 2 ^ k the result
module _ (N q k m j : ℕ) (Q : 8388608 ≤ q) (M : m < 16777216) (lo : q * q * 2 ^ (2 * k) ≤ N)
    (hi : N ≤ (q + 1) * (q + 1) * 2 ^ (2 * k)) where
  mid : ℕ
  mid = (2 * q + 1) * (2 * q + 1) * 2 ^ (2 * k)

  four : (a b : ℕ) → 2 * a * (2 * b) ≡ 4 * (a * b)
  four a b = mul-mul-mul_comm 2 a 2 b

  lo4 : 2 * q * 2 ^ k * (2 * q * 2 ^ k) ≤ 4 * N
  lo4 = le_trans (le_of_eq (sq-shift (2 * q) k ∙ ap (λ (z : ℕ). z * 2 ^ (2 * k)) (four q q) ∙ mul_assoc 4 (q * q) (2 ^ (2 * k))))
      (native.Mathlib.Nat.mul-le-mul_left 4 lo)

  hi4 : 4 * N ≤ 2 * (q + 1) * 2 ^ k * (2 * (q + 1) * 2 ^ k)
  hi4 = le_trans (native.Mathlib.Nat.mul-le-mul_left 4 hi)
      (le_of_eq (sym (sq-shift (2 * (q + 1)) k ∙ ap (λ (z : ℕ). z * 2 ^ (2 * k)) (four (q + 1) (q + 1))
      ∙ mul_assoc 4 ((q + 1) * (q + 1)) (2 ^ (2 * k)))))

  square-mono : (a b : ℕ) → a ≤ b → a * a ≤ b * b
  square-mono a b h = mul-le-mul h h

  Z : ℕ
  Z = m * 2 ^ j

  -- rounded down
  down-case : 4 * N ≤ mid
      → (q * 2 ^ k < m * 2 ^ j → 4 * N ≤ (q * 2 ^ k + m * 2 ^ j) * (q * 2 ^ k + m * 2 ^ j))
      × (m * 2 ^ j < q * 2 ^ k → (q * 2 ^ k + m * 2 ^ j) * (q * 2 ^ k + m * 2 ^ j) ≤ 4 * N)
  unfolding mid
  down-case c = (
    (λ h.
        let g = above-grid q k m j Q M h in
        let s : (2 * q + 1) * 2 ^ k ≤ q * 2 ^ k + m * 2 ^ j =
        le_trans (le_of_eq (spread q (2 ^ k))) (join (q * 2 ^ k) (2 ^ k) (m * 2 ^ j) g) in
        le_trans c (le_trans (le_of_eq (sym (sq-shift (2 * q + 1) k))) (square-mono ((2 * q + 1) * 2 ^ k) (q * 2 ^ k + m * 2 ^ j) s))),
    (λ h.
        let s : q * 2 ^ k + m * 2 ^ j ≤ 2 * q * 2 ^ k =
        le_trans (add-le-add (le_refl (q * 2 ^ k)) (le_of_lt h)) (le_of_eq (twice (q * 2 ^ k) ∙ sym (mul_assoc 2 q (2 ^ k)))) in
        le_trans (square-mono (q * 2 ^ k + m * 2 ^ j) (2 * q * 2 ^ k) s) lo4),
  )
    where
      spread : (q u : ℕ) → (2 * q + 1) * u ≡ q * u + q * u + u
      spread q u = add-mul (2 * q) 1 u ∙ ap (λ (z : ℕ). z + 1 * u) (mul_assoc 2 q u) ∙ fin' (q * u) u
        where
          fin' : (a u : ℕ) → 2 * a + 1 * u ≡ a + a + u
          fin' a u = omega arith

      join : (a u z : ℕ) → a + u ≤ z → a + a + u ≤ a + z
      join a u z h = omega arith

      twice : (a : ℕ) → a + a ≡ 2 * a
      twice a = omega arith

  -- rounded up
  up-case : mid ≤ 4 * N
      → ((q + 1) * 2 ^ k < m * 2 ^ j → 4 * N ≤ ((q + 1) * 2 ^ k + m * 2 ^ j) * ((q + 1) * 2 ^ k + m * 2 ^ j))
      × (m * 2 ^ j < (q + 1) * 2 ^ k → ((q + 1) * 2 ^ k + m * 2 ^ j) * ((q + 1) * 2 ^ k + m * 2 ^ j) ≤ 4 * N)
  unfolding mid
  up-case c = (
    (λ h.
        let s : 2 * (q + 1) * 2 ^ k ≤ (q + 1) * 2 ^ k + m * 2 ^ j =
        le_trans (le_of_eq (mul_assoc 2 (q + 1) (2 ^ k))) (join ((q + 1) * 2 ^ k) (m * 2 ^ j) h) in
        le_trans hi4 (square-mono (2 * (q + 1) * 2 ^ k) ((q + 1) * 2 ^ k + m * 2 ^ j) s)),
    (λ h.
        let s : (q + 1) * 2 ^ k + m * 2 ^ j ≤ (2 * q + 1) * 2 ^ k = under (below-grid (q + 1) k m j M h) in
        le_trans (square-mono ((q + 1) * 2 ^ k + m * 2 ^ j) ((2 * q + 1) * 2 ^ k) s) (le_trans (le_of_eq (sq-shift (2 * q + 1) k)) c)),
  )
    where
      join : (a z : ℕ) → a < z → 2 * a ≤ a + z
      join a z h = omega arith

      spread : (q u : ℕ) → (2 * q + 1) * u ≡ q * u + q * u + u
      spread q u = add-mul (2 * q) 1 u ∙ ap (λ (z : ℕ). z + 1 * u) (mul_assoc 2 q u) ∙ fin' (q * u) u
        where
          fin' : (a u : ℕ) → 2 * a + 1 * u ≡ a + a + u
          fin' a u = omega arith

      next : (q u : ℕ) → (q + 1) * u ≡ q * u + u
      next q u = add-mul q 1 u ∙ fin' (q * u) u
        where
          fin' : (a u : ℕ) → a + 1 * u ≡ a + u
          fin' a u = omega arith

      near : (a u z b c : ℕ) → b ≡ a + u → c ≡ a + a + u → z + u ≤ b → b + z ≤ c
      near a u z b c p q h = omega arith

      far : (a u z b c : ℕ) → b ≡ a + u → c ≡ a + a + u → z < a → b + z ≤ c
      far a u z b c p q h = omega arith

      under : (m * 2 ^ j + 2 ^ k ≤ (q + 1) * 2 ^ k) ⊎ (m * 2 ^ j < 8388608 * 2 ^ k) → (q + 1) * 2 ^ k + m * 2 ^ j ≤ (2 * q + 1) * 2 ^ k
      under (inl g) = near (q * 2 ^ k) (2 ^ k) (m * 2 ^ j) ((q + 1) * 2 ^ k) ((2 * q + 1) * 2 ^ k) (next q (2 ^ k)) (spread q (2 ^ k)) g
      under (inr g) = far (q * 2 ^ k) (2 ^ k) (m * 2 ^ j) ((q + 1) * 2 ^ k) ((2 * q + 1) * 2 ^ k) (next q (2 ^ k)) (spread q (2 ^ k))
          (lt_of_lt_of_le g (mul-le-mul_right (2 ^ k) Q))

pub numbers : (N q k m j : ℕ) → 8388608 ≤ q → m < 16777216 → q * q * 2 ^ (2 * k) ≤ N → N ≤ (q + 1) * (q + 1) * 2 ^ (2 * k)
    → Nearest N (nearest q (compare (4 * N) ((2 * q + 1) * (2 * q + 1) * 2 ^ (2 * k))) * 2 ^ k) (m * 2 ^ j)
numbers N q k m j Q M lo hi = go (settled (4 * N) ((2 * q + 1) * (2 * q + 1) * 2 ^ (2 * k)) q)
  where
    p : ℕ
    p = nearest q (compare (4 * N) ((2 * q + 1) * (2 * q + 1) * 2 ^ (2 * k)))

    go : ((p ≡ q) × (4 * N ≤ (2 * q + 1) * (2 * q + 1) * 2 ^ (2 * k))) ⊎ ((p ≡ q + 1) × ((2 * q + 1) * (2 * q + 1) * 2 ^ (2 * k) ≤ 4 * N))
        → Nearest N (p * 2 ^ k) (m * 2 ^ j)
    go (inl x) = subst (λ (y : ℕ). Nearest N (y * 2 ^ k) (m * 2 ^ j)) (sym x.0) (unfold mid in down-case N q k m j Q M lo hi x.1)
    go (inr x) = subst (λ (y : ℕ). Nearest N (y * 2 ^ k) (m * 2 ^ j)) (sym x.0) (unfold mid in up-case N q k m j Q M lo hi x.1)

-- ---- floats
compare-scale : (a b c : ℕ) → 0 < c → compare (a * c) (b * c) ≡ compare a b
compare-scale a b c C = go (lt-or-ge a b) (lt-or-ge b a)
  where
    go : (a < b) ⊎ (b ≤ a) → (b < a) ⊎ (a ≤ b) → compare (a * c) (b * c) ≡ compare a b
    go (inl l) y = compare-lt (a * c) (b * c) (mul-lt-mul_of_pos_right l C) ∙ sym (compare-lt a b l)
    go (inr g) (inl l) = compare-gt (a * c) (b * c) (mul-lt-mul_of_pos_right l C) ∙ sym (compare-gt a b l)
    go (inr g) (inr f) = let e = le_antisymm f g in compare-eq (a * c) (b * c) (ap (λ (z : ℕ). z * c) e) ∙ sym (compare-eq a b e)

-- the value of an `f32` is below 2 ^ 24 times a power of two, in units
on-grid : (z : Float) (Z : ℕ) → T (fits binary32 z) → HasValue z false Z (2 ^ 149) → (m : ℕ) × (j : ℕ) × (m < 16777216) × (m * 2 ^ j ≡ Z)
unfolding fits
on-grid nan Z f h = absurd h
on-grid (inf s) Z f h = absurd h
on-grid (fin s zero e) Z f h = (
  0,
  0,
  lib.Dec.lit< tt,
  eq_of_mul-eq-mul_right (down e) (down_pos e) (0 * 2 ^ 0) Z
      (native.Mathlib.Nat.zero-mul (down e)
      ∙ sym (ap (λ (y : ℕ). y * 2 ^ 149) (native.Mathlib.Nat.zero-mul (up e)) ∙ native.Mathlib.Nat.zero-mul (2 ^ 149)) ∙ h.1),
)
on-grid (fin s (suc m) e) Z f h = let g = fits-parts s m e f in at e g.0 g.1 h.1
  where
    at : (e : ℤ) → suc m < 16777216 → down e ≤ 2 ^ 149 → suc m * up e * 2 ^ 149 ≡ Z * down e
        → (m : ℕ) × (j : ℕ) × (m < 16777216) × (m * 2 ^ j ≡ Z)
    at (pos a) l d v = (
      suc m,
      a + 149,
      l,
      ap (λ (z : ℕ). suc m * z) (pow-add 2 a 149) ∙ sym (mul_assoc (suc m) (2 ^ a) (2 ^ 149)) ∙ v
          ∙ mul-one Z,
    )
    at (negsuc a) l d v =
        let g : suc a ≤ 149 = pow-back (suc a) 149 d in (
          suc m,
          149 - suc a,
          l,
          eq_of_mul-eq-mul_right (2 ^ suc a) (pow_pos (suc a)) (suc m * 2 ^ (149 - suc a)) Z
              (mul_assoc (suc m) (2 ^ (149 - suc a)) (2 ^ suc a)
              ∙ ap (λ (z : ℕ). suc m * z) (sym (pow-add 2 (149 - suc a) (suc a)) ∙ ap (λ (z : ℕ). 2 ^ z) (back (suc a) g))
              ∙ ap (λ (z : ℕ). z * 2 ^ 149) (sym (mul-one (suc m))) ∙ v),
        )
      where
        back : (a : ℕ) → a ≤ 149 → 149 - a + a ≡ 149
        back a h = omega arith

-- the kept digits of the root of N
kept : (N : ℕ) → 70368744177664 ≤ N
    → (8388608 ≤ isqrt N / 2 ^ (size (isqrt N) - 24))
    × (isqrt N / 2 ^ (size (isqrt N) - 24) * (isqrt N / 2 ^ (size (isqrt N) - 24)) * 2 ^ (2 * (size (isqrt N) - 24)) ≤ N)
    × (N ≤ (isqrt N / 2 ^ (size (isqrt N) - 24) + 1) * (isqrt N / 2 ^ (size (isqrt N) - 24) + 1) * 2 ^ (2 * (size (isqrt N) - 24)))
kept N h =
    let w = isqrt N in
    let r = isqrt-is N in
    let k = size w - 24 in
    let q = w / 2 ^ k in
    let W : 8388608 ≤ w = root_ge N w 8388608 h r in
    let S : 24 ≤ size w = digits W in
    let lo : q * 2 ^ k ≤ w = div-mul-le_self w (2 ^ k) in
    let hi : w + 1 ≤ (q + 1) * 2 ^ k =
    le_trans (le_of_eq (add-one w))
    (le_trans (lt-div-mul-add (pow_pos k))
    (le_of_eq (sym (add-mul q 1 (2 ^ k) ∙ ap (λ (z : ℕ). q * 2 ^ k + z) (native.Mathlib.Nat.one-mul (2 ^ k)))))) in (
      (native.Mathlib.Nat.le-div_iff_mul-le (pow_pos k)).1
          (le_trans (le_of_eq (sym (pow-add 2 23 k))) (size_reaches w (23 + k) (inside (size w) S))),
      le_trans (le_of_eq (sym (sq-shift q k))) (le_trans (mul-le-mul lo lo) r.0),
      le_trans (le_of_lt r.1) (le_trans (mul-le-mul hi hi) (le_of_eq (sq-shift (q + 1) k))),
    )
  where
    inside : (z : ℕ) → 24 ≤ z → 23 + (z - 24) < z
    inside z h = omega arith

    digits : 8388608 ≤ isqrt N → 24 ≤ size (isqrt N)
    digits W = go (lt-or-ge (size (isqrt N)) 24)
      where
        few : size (isqrt N) < 24 → size (isqrt N) ≤ 23
        few l = omega arith

        go : (size (isqrt N) < 24) ⊎ (24 ≤ size (isqrt N)) → 24 ≤ size (isqrt N)
        go (inl l) = absurd (not-le_of_lt (lt_of_lt_of_le (size-lt (isqrt N)) (pow_mono (few l))) W)
        go (inr g) = g

-- what is kept of the root of N, and how many digits are dropped
abbrev cut_of : ℕ → ℕ
cut_of N = size (isqrt N) - 24

abbrev kept_of : ℕ → ℕ
kept_of N = isqrt N / 2 ^ cut_of N

abbrev near_of : ℕ → ℕ
near_of N = nearest (kept_of N) (compare (4 * N) ((2 * kept_of N + 1) * (2 * kept_of N + 1) * 2 ^ (2 * cut_of N)))

root-units : (num den X : ℕ) → 0 < den → num * 2 ^ 149 ≡ X * den
    → root_at binary32 num den ≡ units binary32 false (near_of (X * 2 ^ 149)) (cut_of (X * 2 ^ 149))
root-units num den X D h =
    let N = X * 2 ^ 149 in
    let n = num * 2 ^ 298 in
    let k = cut_of N in
    let q = kept_of N in
    let e : n ≡ N * den = sym (mul_assoc num (2 ^ 149) (2 ^ 149)) ∙ ap (λ (z : ℕ). z * 2 ^ 149) h ∙ mul_right_comm X den (2 ^ 149) in
    root_at-core num den
    ∙ ap (λ (z : ℕ). core n den (isqrt z) (size (isqrt z) - 24)) (ap (λ (z : ℕ). z / den) e ∙ mul-div_cancel N D)
    ∙ ap (λ (o : Ordering). units binary32 false (nearest q o) k)
    (ap (λ (z : ℕ). compare z ((2 * q + 1) * (2 * q + 1) * (2 ^ (2 * k) * den))) (ap (λ (z : ℕ). 4 * z) e ∙ sym (mul_assoc 4 N den))
    ∙ ap (λ (z : ℕ). compare (4 * N * den) z) (sym (mul_assoc ((2 * q + 1) * (2 * q + 1)) (2 ^ (2 * k)) den))
    ∙ compare-scale (4 * N) ((2 * q + 1) * (2 * q + 1) * 2 ^ (2 * k)) den D)

-- ---- the root is far below an infinity
few-digits : (N : ℕ) → N < 2 ^ 426 → size (isqrt N) ≤ 213
few-digits N h = size-le (isqrt N) 213 (go (lt-or-ge (isqrt N) (2 ^ 213)))
  where
    go : (isqrt N < 2 ^ 213) ⊎ (2 ^ 213 ≤ isqrt N) → isqrt N < 2 ^ 213
    go (inl l) = l
    go (inr g) = absurd (not-le_of_lt h (le_trans (le_of_eq (pow-add 2 213 213)) (le_trans (mul-le-mul g g) (isqrt-is N).0)))

near-short : (N : ℕ) → near_of N ≤ 16777216
near-short N =
    le_trans (nearest-le (kept_of N) (compare (4 * N) ((2 * kept_of N + 1) * (2 * kept_of N + 1) * 2 ^ (2 * cut_of N))))
    ((div-lt_iff_lt-mul (pow_pos (cut_of N))).1
    (lt_of_lt_of_le (size-lt (isqrt N)) (le_trans (pow_mono (fits_in (size (isqrt N)))) (le_of_eq (pow-add 2 24 (cut_of N))))))
  where
    fits_in : (z : ℕ) → z ≤ 24 + (z - 24)
    fits_in z = omega arith

near-below : (N : ℕ) → N < 2 ^ 426 → near_of N * 2 ^ cut_of N < 2 ^ 277
near-below N h =
    lt_of_le_of_lt (mul-le-mul_right (2 ^ cut_of N) (near-short N))
    (subst (λ (z : ℕ). z < 2 ^ 277) (pow-add 2 24 (cut_of N)) (pow-lt (low (size (isqrt N)) (few-digits N h))))
  where
    low : (z : ℕ) → z ≤ 213 → 24 + (z - 24) < 277
    low z h = omega arith

-- the square of the root of a finite value, in smallest values
square-below : (a d X : ℕ) → 0 < d → a * 2 ^ 149 ≡ X * d → a < 2 ^ 128 * d → X * 2 ^ 149 < 2 ^ 426
square-below a d X D e h =
    subst (λ (z : ℕ). X * 2 ^ 149 < z) (sym (pow-add 2 277 149))
    (mul-lt-mul_of_pos_right
    (lt_of_mul-lt-mul_right d
    (subst (λ (z : ℕ). z < 2 ^ 277 * d) e
    (subst (λ (z : ℕ). a * 2 ^ 149 < z) (mul_right_comm (2 ^ 128) d (2 ^ 149) ∙ ap (λ (z : ℕ). z * d) (sym (pow-add 2 128 149)))
    (mul-lt-mul_of_pos_right h (pow_pos 149)))))
    (pow_pos 149))

pub root-nearest : RootNearest
unfolding RootNearest sqrt
root-nearest nan X f a p = absurd a
root-nearest (inf s) X f a p = absurd a
root-nearest (fin s zero e) X f a p =
    absurd (lt_irrefl 0 (subst (λ (z : ℕ). 0 < z)
    (sym a.1 ∙ ap (λ (z : ℕ). z * 2 ^ 149) (native.Mathlib.Nat.zero-mul (up e)) ∙ native.Mathlib.Nat.zero-mul (2 ^ 149))
    (mul-pos p (down_pos e))))
root-nearest (fin true (suc m) e) X f a p = absurd (true≢false a.0)
root-nearest (fin false (suc m) e) X f a p =
    let N = X * 2 ^ 149 in
    let is = root-units (suc m * up e) (down e) X (down_pos e) a.1 in
    let below = near-below N (square-below (suc m * up e) (down e) X (down_pos e) a.1 (fits-parts false m e f).2) in
    let big : 70368744177664 ≤ N = le_trans (lit≤ tt) (mul-le-mul_right (2 ^ 149) p) in
    let k = kept N big in (
      near_of N * 2 ^ cut_of N,
      subst (λ (v : Float). HasValue v false (near_of N * 2 ^ cut_of N) (2 ^ 149)) (sym is)
          (units_val binary32 false (near_of N) (cut_of N) below),
      subst (λ (v : Float). T (fits binary32 v)) (sym is) (short-fits false (near_of N) (cut_of N) (near-short N) below),
      λ z Z g c.
          let at = on-grid z Z g c in
          subst (λ (t : ℕ). Nearest N (near_of N * 2 ^ cut_of N) t) at.3
          (numbers N (kept_of N) (cut_of N) at.0 at.1 k.0 at.2 k.1 k.2),
    )
