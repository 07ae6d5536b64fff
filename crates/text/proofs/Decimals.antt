-- Numbers in decimal and in hex. Digits: decimal-one, decimal-more; length-one, length_more; decimal-tens, how many digits there are. The
-- last digits: last_none, last_more, last-length. Hex: hex_digit-low, hex_digit-high, hex-none, hex-more, hex-length. Assumes nothing.
use mathlib.Core.Path.{◌≡◌, refl, sym, ap, ◌∙◌}
use mathlib.Core.Logic.{◌⊎◌, inl, inr}
use mathlib.Core.List.{List, [], ◌∷◌, ◌++◌}
use Prim.Native.Nat.{ℕ, zero, suc, ◌+◌, ◌*◌, ◌/◌, ◌%◌, ◌≤◌, ◌<◌, ◌^◌}
use native.Mathlib.Numerals.{add-one}
use native.Mathlib.Omega.{arith}
use lib.ListN.{length, length-append}
use borrow.Author.Tests.{lt-ltb, le-ltb}
use Rattle.laws.proofs.Bools.{le-or-lt}
use Rattle.text.specs.Text.{spelt, decimal, last_digits, hex_digit, hex}

-- ---- digits
spelt-one : (m n : ℕ) → n < 10 → spelt (suc m) n ≡ (48 + n) ∷ []
unfolding spelt
spelt-one m n l = rw (lt-ltb n 10 l)

spelt-more : (m n : ℕ) → 10 ≤ n → spelt (suc m) n ≡ spelt m (n / 10) ++ ((48 + n % 10) ∷ [])
unfolding spelt
spelt-more m n l = rw (le-ltb n 10 l)

-- more room than digits changes nothing
spelt-same : (m k n : ℕ) → n < m → n < k → spelt m n ≡ spelt k n
spelt-same zero k n a b = absurd (omega arith)
spelt-same (suc m) zero n a b = absurd (omega arith)
spelt-same (suc m) (suc k) n a b = go (λ l f. spelt-same m k (n / 10) l f) (le-or-lt 10 n)
  where
    go : (n / 10 < m → n / 10 < k → spelt m (n / 10) ≡ spelt k (n / 10)) → (10 ≤ n) ⊎ (n < 10) → spelt (suc m) n ≡ spelt (suc k) n
    go same (inr l) = spelt-one m n l ∙ sym (spelt-one k n l)
    go same (inl l) =
        spelt-more m n l
        ∙ ap (λ (d : List ℕ). d ++ ((48 + n % 10) ∷ [])) (same (omega arith) (omega arith))
        ∙ sym (spelt-more k n l)

pub decimal-one : (n : ℕ) → n < 10 → decimal n ≡ (48 + n) ∷ []
unfolding decimal
decimal-one n l = spelt-one n n l

pub decimal-more : (n : ℕ) → 10 ≤ n → decimal n ≡ decimal (n / 10) ++ ((48 + n % 10) ∷ [])
unfolding decimal
decimal-more n l =
    spelt-more n n l
    ∙ ap (λ (d : List ℕ). d ++ ((48 + n % 10) ∷ [])) (spelt-same n (suc (n / 10)) (n / 10) (omega arith) (omega arith))

-- ---- how many
pub length-one : (n : ℕ) → n < 10 → length (decimal n) ≡ 1
length-one n l = ap length (decimal-one n l)

pub length_more : (n : ℕ) → 10 ≤ n → length (decimal n) ≡ length (decimal (n / 10)) + 1
length_more n l = ap length (decimal-more n l) ∙ length-append (decimal (n / 10)) ((48 + n % 10) ∷ [])

-- a number below the power of ten with this exponent and one more has at most so many digits
pub decimal-tens : (k n : ℕ) → n < 10 * 10 ^ k → length (decimal n) ≤ suc k
decimal-tens zero n l = omega (arith, length-one n (omega arith))
decimal-tens (suc k) n l = go (decimal-tens k (n / 10) (omega arith)) (le-or-lt 10 n)
  where
    go : length (decimal (n / 10)) ≤ suc k → (10 ≤ n) ⊎ (n < 10) → length (decimal n) ≤ suc (suc k)
    go few (inr a) = omega (arith, length-one n a)
    go few (inl a) = omega (arith, length_more n a, few)

-- ---- the last digits
pub last_none : (n : ℕ) → [] ≡ last_digits 0 n
unfolding last_digits
last_none n = refl

pub last_more : (k n : ℕ) → last_digits k (n / 10) ++ ((48 + n % 10) ∷ []) ≡ last_digits (suc k) n
unfolding last_digits
last_more k n = refl

pub last-length : (k n : ℕ) → length (last_digits k n) ≡ k
last-length zero n = unfold last_digits in refl
last-length (suc k) n =
    sym (ap length (last_more k n))
    ∙ length-append (last_digits k (n / 10)) ((48 + n % 10) ∷ [])
    ∙ ap (λ (j : ℕ). j + 1) (last-length k (n / 10))
    ∙ add-one k

-- ---- hex
pub hex_digit-low : (d : ℕ) → d < 10 → 48 + d ≡ hex_digit d
unfolding hex_digit
hex_digit-low d l = rw (lt-ltb d 10 l)

pub hex_digit-high : (d : ℕ) → 10 ≤ d → 87 + d ≡ hex_digit d
unfolding hex_digit
hex_digit-high d l = rw (le-ltb d 10 l)

pub hex-none : (n : ℕ) → [] ≡ hex 0 n
unfolding hex
hex-none n = refl

pub hex-more : (k n : ℕ) → hex k (n / 16) ++ (hex_digit (n % 16) ∷ []) ≡ hex (suc k) n
unfolding hex
hex-more k n = refl

pub hex-length : (k n : ℕ) → length (hex k n) ≡ k
hex-length zero n = unfold hex in refl
hex-length (suc k) n =
    sym (ap length (hex-more k n))
    ∙ length-append (hex k (n / 16)) (hex_digit (n % 16) ∷ [])
    ∙ ap (λ (j : ℕ). j + 1) (hex-length k (n / 16))
    ∙ add-one k
