-- A guessed root that is looked at. Assumes nothing.
--   near_of        r is the whole number nearest to the root of m where m lies between the squares of r − 1/2 and r + 1/2
--   number_of      what is at or above a number is no NaN
use Rattle.std.proofs.Common.{◌≡◌, ℕ, zero, suc, ◌+◌, ◌*◌, ◌<◌, ◌≤◌, Bool, true, false, cond, not, T, ltb, sym, ap, ◌∙◌, mul-le-mul, arith, le-ltb, lt-ltb}
use mathlib.Core.Bool.{false≢true}
use native.Mathlib.Decide.{dec_lt}
use lib.Ieee.{Float, nan, inf, fin, lt, eq, le, is_nan}
use Rattle.ieee.specs.Root.{isqrt, near_root}
use Rattle.ieee.proofs.Roots.{Root, isqrt-is, sq-mono}

-- ---- the nearest
mono : (a b : ℕ) → a ≤ b → a * a + a ≤ b * b + b
mono a b h = let z = mul-le-mul h h in omega arith

-- P(t) < m ≤ P(t + 1) with P(n) = n·n + n, where q is the whole part of m's root
over : (m t q : ℕ) → t * t + t < m → m ≤ (t + 1) * (t + 1) + (t + 1) → q * q ≤ m → m < (q + 1) * (q + 1) → q * q + q < m → t ≡ q
over m t q lo hi a b h = elim (dec_lt t q) [
  | yes l ↦ absurd (let z = mono (t + 1) q (omega arith) in omega arith)
  | no n ↦ elim (dec_lt q t) [
    | yes l ↦ absurd (let z = mono (q + 1) t (omega arith) in omega arith)
    | no k ↦ omega (arith, n, k)
  ]
]

under : (m t q : ℕ) → t * t + t < m → m ≤ (t + 1) * (t + 1) + (t + 1) → q * q ≤ m → m ≤ q * q + q → t + 1 ≡ q
under m t q lo hi a h = elim (dec_lt t q) [
  | no n ↦ absurd (let l : q ≤ t = omega (arith, n) in let z = mono q t l in omega arith)
  | yes l ↦ elim (dec_lt (t + 1) q) [
    | yes k ↦ absurd (let z = sq-mono (t + 2) q (omega arith) in omega arith)
    | no n ↦ omega (arith, n)
  ]
]

near_by : (m r q : ℕ) (b : Bool) → ltb (q * q + q) m ≡ b → r ≡ cond b (q + 1) q → r ≡ cond (ltb (q * q + q) m) (q + 1) q
near_by m r q b h e = e ∙ sym (ap (λ (b : Bool). cond b (q + 1) q) h)

pub near_of : (m r : ℕ) → r * r < m + r → m ≤ r * r + r → r ≡ near_root m
near_of m zero lo hi = absurd (omega arith)
near_of m (suc t) lo hi = elim (dec_lt (q * q + q) m) [
  | yes h ↦ near_by m (suc t) q true (lt-ltb (q * q + q) m h) (let z = over m t q below above root.0 root.1 h in omega arith)
  | no n ↦
      let h : m ≤ q * q + q = omega (arith, n) in
      near_by m (suc t) q false (le-ltb (q * q + q) m h) (let z = under m t q below above root.0 h in omega arith)
]
  where
    q : ℕ
    q = isqrt m

    root : Root m q
    root = isqrt-is m

    below : t * t + t < m
    below = omega (arith, lo)

    above : m ≤ (t + 1) * (t + 1) + (t + 1)
    above = omega (arith, hi)

-- ---- floats of the guess
pub number_of : (x y : Float) → le x y ≡ true → T (not (is_nan y))
unfolding le lt eq is_nan
number_of nan nan h = absurd (false≢true h)
number_of (inf s) nan h = absurd (false≢true h)
number_of (fin s m e) nan h = absurd (false≢true h)
number_of x (inf s) h = tt
number_of x (fin s m e) h = tt
