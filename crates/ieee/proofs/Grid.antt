-- The values of f32 next to a * 2 ^ k smallest values, for an a of 24 digits, or 2 ^ 24. Assumes nothing.
--   above-grid                         the next value above is at least 2 ^ k away
--   below-grid                         so is the next one below, or it lies in a lower binade
use Rattle.std.proofs.Common.{◌≡◌, ℕ, ◌+◌, ◌-◌, ◌*◌, ◌^◌, ◌<◌, ◌≤◌, ◌⊎◌, sym, ap, ◌∙◌, subst, inl, inr, le_trans, le_of_eq, lt_of_lt_of_le, le_of_lt, mul-le-mul_right, mul_assoc, suc-mul, lt_of_mul-lt-mul_right, not-le_of_lt, arith, pow_mono, pow-add, shl_lt}
use Rattle.ieee.proofs.Values.{lt-or-ge}

pub above-grid : (a k m j : ℕ) → 8388608 ≤ a → m < 16777216 → a * 2 ^ k < m * 2 ^ j → a * 2 ^ k + 2 ^ k ≤ m * 2 ^ j
above-grid a k m j A M h = go (lt-or-ge j k)
  where
    few : j < k → 24 + j ≤ 23 + k
    few l = omega arith

    back : k ≤ j → j - k + k ≡ j
    back g = omega arith

    go : (j < k) ⊎ (k ≤ j) → a * 2 ^ k + 2 ^ k ≤ m * 2 ^ j
    go (inl l) = absurd (not-le_of_lt h
        (le_trans (le_of_lt (shl_lt 24 j M))
        (le_trans (pow_mono (few l)) (le_trans (le_of_eq (pow-add 2 23 k)) (mul-le-mul_right (2 ^ k) A)))))
    go (inr g) =
        let b = m * 2 ^ (j - k) in
        let e : b * 2 ^ k ≡ m * 2 ^ j =
        mul_assoc m (2 ^ (j - k)) (2 ^ k) ∙ ap (λ (z : ℕ). m * z) (sym (pow-add 2 (j - k) k) ∙ ap (λ (z : ℕ). 2 ^ z) (back g)) in
        let l : a < b = lt_of_mul-lt-mul_right (2 ^ k) (subst (λ (z : ℕ). a * 2 ^ k < z) (sym e) h) in
        le_trans (le_of_eq (sym (suc-mul a (2 ^ k)))) (le_trans (mul-le-mul_right (2 ^ k) l) (le_of_eq e))

pub below-grid : (a k m j : ℕ) → m < 16777216 → m * 2 ^ j < a * 2 ^ k → (m * 2 ^ j + 2 ^ k ≤ a * 2 ^ k) ⊎ (m * 2 ^ j < 8388608 * 2 ^ k)
below-grid a k m j M h = go (lt-or-ge j k)
  where
    few : j < k → 24 + j ≤ 23 + k
    few l = omega arith

    back : k ≤ j → j - k + k ≡ j
    back g = omega arith

    go : (j < k) ⊎ (k ≤ j) → (m * 2 ^ j + 2 ^ k ≤ a * 2 ^ k) ⊎ (m * 2 ^ j < 8388608 * 2 ^ k)
    go (inl l) = inr (lt_of_lt_of_le (shl_lt 24 j M) (le_trans (pow_mono (few l)) (le_of_eq (pow-add 2 23 k))))
    go (inr g) =
        let b = m * 2 ^ (j - k) in
        let e : b * 2 ^ k ≡ m * 2 ^ j =
        mul_assoc m (2 ^ (j - k)) (2 ^ k) ∙ ap (λ (z : ℕ). m * z) (sym (pow-add 2 (j - k) k) ∙ ap (λ (z : ℕ). 2 ^ z) (back g)) in
        let l : b < a = lt_of_mul-lt-mul_right (2 ^ k) (subst (λ (z : ℕ). z < a * 2 ^ k) (sym e) h) in
        inl (le_trans (le_of_eq (ap (λ (z : ℕ). z + 2 ^ k) (sym e) ∙ sym (suc-mul b (2 ^ k)))) (mul-le-mul_right (2 ^ k) l))
