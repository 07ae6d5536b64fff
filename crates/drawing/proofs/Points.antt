-- The points of a line, number by number.
--     mean-is, mean-low, mean-high, mean-near   a rounded quotient: of a multiple, not below, not above, and of numbers that are near
--     weight-low, weight-high, weight-fits      a weighted sum is between the ends
--     between_first, between-last, between-low, between-high, between-few, between_next   the number after k steps
--     steps-some, steps-few, steps_apart        the steps of a line
-- Assumes nothing.
use mathlib.Core.Path.{◌≡◌, ap, ◌∙◌}
use mathlib.Core.Logic.{◌⊎◌, inl, inr}
use Prim.Native.Nat.{ℕ, ◌+◌, ◌-◌, ◌*◌, ◌/◌, ◌≤◌, ◌<◌, min, max}
use native.Mathlib.Nat.{mul-le-mul_right, mul-zero, sub-zero, le-div_iff_mul-le, div-lt_iff_lt-mul, div-add-mod', mod-lt, min-le_left, min-le_right, le-max_left, le-max_right}
use native.Mathlib.Omega.{arith}
use Rattle.laws.proofs.Bools.{le-or-lt}
use Rattle.laws.specs.Gap.{gap}
use Rattle.drawing.specs.Lines.{steps_of, line_point}
use Rattle.drawing.specs.declared.Spot.{Spot}

-- ---- a quotient, rounded
module _ (n v t : ℕ) (some : 1 ≤ n) where
  pub mean-low : t * n ≤ v → t ≤ (2 * v + n) / (2 * n)
  mean-low l = let z : t * (2 * n) ≤ 2 * v + n = omega arith in let y : 0 < 2 * n = omega arith in (le-div_iff_mul-le y).1 z

  pub mean-high : v ≤ t * n → (2 * v + n) / (2 * n) ≤ t
  mean-high l =
      let z : 2 * v + n < (t + 1) * (2 * n) = omega arith in
      let y : 0 < 2 * n = omega arith in
      let under : (2 * v + n) / (2 * n) < t + 1 = (div-lt_iff_lt-mul y).1 z in
      omega arith

pub mean-is : (n v t : ℕ) → 1 ≤ n → v ≡ t * n → (2 * v + n) / (2 * n) ≡ t
mean-is n v t some e =
    let low : t ≤ (2 * v + n) / (2 * n) = mean-low n v t some (omega arith) in
    let high : (2 * v + n) / (2 * n) ≤ t = mean-high n v t some (omega arith) in
    omega arith

-- quotients of numbers that are no further apart than the divisor
near_up : (p q m : ℕ) → 0 < m → p ≤ q → q ≤ p + m → (p / m ≤ q / m) × (q / m ≤ p / m + 1)
near_up p q m some up few =
    let a : p / m * m + _ ≡ p = div-add-mod' p m in
    let b : q / m * m + _ ≡ q = div-add-mod' q m in
    let lowest : p / m * m ≤ q = omega arith in
    let past : q < (p / m + 1 + 1) * m = omega (arith, mod-lt p some) in
    let z : q / m < p / m + 1 + 1 = (div-lt_iff_lt-mul some).1 past in
    ((le-div_iff_mul-le some).1 lowest, omega arith)

pub mean-near : (n u v : ℕ) → 1 ≤ n → u ≤ v + n → v ≤ u + n → gap ((2 * u + n) / (2 * n)) ((2 * v + n) / (2 * n)) ≤ 1
mean-near n u v some few few' = go (le-or-lt u v)
  where
    go : (u ≤ v) ⊎ (v < u) → gap ((2 * u + n) / (2 * n)) ((2 * v + n) / (2 * n)) ≤ 1
    go (inl up) = let z = near_up (2 * u + n) (2 * v + n) (2 * n) (omega arith) (omega arith) (omega arith) in omega (arith, z)
    go (inr down) = let z = near_up (2 * v + n) (2 * u + n) (2 * n) (omega arith) (omega arith) (omega arith) in omega (arith, z)

-- ---- a weighted sum of a and b
module _ (a b n k : ℕ) (early : k ≤ n) where
  parts : (t : ℕ) → t * (n - k) + t * k ≡ t * n
  parts t = let z : n ≡ (n - k) + k = omega arith in omega (arith, ap (λ (m : ℕ). t * m) z)

  pub weight-low : (t : ℕ) → t ≤ a → t ≤ b → t * n ≤ a * (n - k) + b * k
  weight-low t p q = omega (arith, parts t, mul-le-mul_right (n - k) p, mul-le-mul_right k q)

  pub weight-high : (t : ℕ) → a ≤ t → b ≤ t → a * (n - k) + b * k ≤ t * n
  weight-high t p q = omega (arith, parts t, mul-le-mul_right (n - k) p, mul-le-mul_right k q)

-- of two numbers below 65,536, with as many steps
pub weight-fits : (a b n k : ℕ) → a ≤ 65535 → b ≤ 65535 → n ≤ 65535 → k ≤ n → a * (n - k) + b * k ≤ 4294836225
weight-fits a b n k p q few early = omega (arith, weight-high a b n k early 65535 p q)

-- ---- the number after k steps
module _ (a b n : ℕ) (some : 1 ≤ n) where
  pub between_first : line_point a b n 0 ≡ a
  unfolding line_point
  between_first = mean-is n _ a some (ap (λ (m : ℕ). a * m + b * 0) (sub-zero n) ∙ omega (arith, mul-zero b))

  pub between-last : line_point a b n n ≡ b
  unfolding line_point
  between-last = let z : n - n ≡ 0 = omega arith in mean-is n _ b some (ap (λ (m : ℕ). a * m + b * n) z ∙ omega (arith, mul-zero a))

  pub between-low : (k : ℕ) → k ≤ n → min a b ≤ line_point a b n k
  unfolding line_point
  between-low k early = mean-low n _ (min a b) some (weight-low a b n k early (min a b) (min-le_left a b) (min-le_right a b))

  pub between-high : (k : ℕ) → k ≤ n → line_point a b n k ≤ max a b
  unfolding line_point
  between-high k early = mean-high n _ (max a b) some (weight-high a b n k early (max a b) (le-max_left a b) (le-max_right a b))

  pub between-few : (k : ℕ) → k ≤ n → a ≤ 65535 → b ≤ 65535 → line_point a b n k ≤ 65535
  between-few k early p q = omega (arith, between-high k early)

  pub between_next : (k : ℕ) → k < n → gap a b ≤ n → gap (line_point a b n k) (line_point a b n (k + 1)) ≤ 1
  unfolding line_point
  between_next k early near =
      let j = n - (k + 1) in
      let z : n - k ≡ j + 1 = omega arith in
      let y : a * (n - k) ≡ a * j + a = ap (λ (m : ℕ). a * m) z ∙ omega arith in
      mean-near n (a * (n - k) + b * k) (a * (n - (k + 1)) + b * (k + 1)) some (omega arith) (omega arith)

-- ---- the steps of a line
module _ (a b : Spot) where
  pub steps-some : 1 ≤ steps_of a b
  unfolding steps_of
  steps-some = omega arith

  pub steps_apart : (gap a.x b.x ≤ steps_of a b) × (gap a.y b.y ≤ steps_of a b)
  unfolding steps_of
  steps_apart = (omega arith, omega arith)

  -- as the code takes them
  pub steps-are : (across down r : ℕ) → across ≡ gap a.x b.x → down ≡ gap a.y b.y → r ≡ max 1 (max across down)
      → r ≡ steps_of a b
  unfolding steps_of
  steps-are across down r e f g =
      g ∙ ap (λ (m : ℕ). max 1 (max m down)) e ∙ ap (λ (m : ℕ). max 1 (max (gap a.x b.x) m)) f

pub larger-few : (across down r : ℕ) → across ≤ 65535 → down ≤ 65535 → r ≡ max 1 (max across down) → (1 ≤ r) × (r ≤ 65535)
larger-few across down r p q e = (omega arith, omega arith)
