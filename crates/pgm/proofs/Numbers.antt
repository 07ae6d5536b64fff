-- Numbers in decimal, as a header has them.
--   size-two, size-three, size-four, size_few    how many digits a number below 10,000 has
--   Digits, decimal-digits                       a list of digits that is not empty
--   valued, decimal-valued                       the number that digits have
-- Assumes nothing.
use mathlib.Core.Path.{◌≡◌, refl, ap, ◌∙◌}
use mathlib.Core.Logic.{◌⊎◌, inl, inr}
use mathlib.Core.Bool.{true}
use mathlib.Core.List.{List, [], ◌∷◌, ◌++◌}
use Prim.Native.Nat.{ℕ, zero, suc, ◌+◌, ◌-◌, ◌*◌, ◌/◌, ◌%◌, ◌≤◌, ◌<◌}
use native.Mathlib.Nat.{not-suc-le-zero}
use native.Mathlib.Omega.{arith}
use lib.ListN.{length}
use borrow.Author.Tests.{le-leb}
use Rattle.laws.proofs.Bools.{le-or-lt}
use Rattle.text.specs.Text.{decimal}
use Rattle.text.proofs.Decimals.{decimal-one, decimal-more, length-one, length_more, decimal-tens}
use Rattle.pgm.specs.Form.{is_digit}

-- ---- how many digits
pub size-two : (n : ℕ) → 10 ≤ n → n < 100 → length (decimal n) ≡ 2
size-two n l b = omega (arith, length_more n l, length-one (n / 10) (omega arith))

pub size-three : (n : ℕ) → 100 ≤ n → n < 1000 → length (decimal n) ≡ 3
size-three n l b = omega (arith, length_more n (omega arith), size-two (n / 10) (omega arith) (omega arith))

pub size-four : (n : ℕ) → 1000 ≤ n → n < 10000 → length (decimal n) ≡ 4
size-four n l b = omega (arith, length_more n (omega arith), size-three (n / 10) (omega arith) (omega arith))

pub size_few : (n : ℕ) → n < 10000 → length (decimal n) ≤ 4
size_few n l = decimal-tens 3 n l

-- ---- digits, and their number
pub data Digits : List ℕ → Type 0 where
  one : {d : ℕ} → is_digit d ≡ true → Digits (d ∷ [])
  more : {d : ℕ} {l : List ℕ} → is_digit d ≡ true → Digits l → Digits (d ∷ l)

unfoldable pub valued : ℕ → List ℕ → ℕ
valued n [] = n
valued n (d ∷ l) = valued (10 * n + (d - 48)) l

digit-is : (n : ℕ) → n < 10 → is_digit (48 + n) ≡ true
unfolding is_digit
digit-is n l = rw (le-leb 48 (48 + n) (omega arith), le-leb (48 + n) 57 (omega arith))

digits_append : {l : List ℕ} (d : ℕ) → Digits l → is_digit d ≡ true → Digits (l ++ (d ∷ []))
digits_append d (one e) f = more e (one f)
digits_append d (more e l) f = more e (digits_append d l f)

-- by any bound of the number
below-digits : (m n : ℕ) → n < m → Digits (decimal n)
below-digits zero n l = absurd (not-suc-le-zero l)
below-digits (suc m) n l = go (le-or-lt 10 n) (below-digits m (n / 10))
  where
    go : (10 ≤ n) ⊎ (n < 10) → (n / 10 < m → Digits (decimal (n / 10))) → Digits (decimal n)
    go (inl t) ih = rw (decimal-more n t) (digits_append (48 + n % 10) (ih (omega arith)) (digit-is (n % 10) (omega arith)))
    go (inr t) ih = rw (decimal-one n t) (one (digit-is n t))

pub decimal-digits : (n : ℕ) → Digits (decimal n)
decimal-digits n = below-digits (suc n) n (omega arith)

valued-append : (n : ℕ) (l : List ℕ) (d : ℕ) → valued n (l ++ (d ∷ [])) ≡ 10 * valued n l + (d - 48)
unfolding valued
valued-append n [] d = refl
valued-append n (e ∷ l) d = valued-append (10 * n + (e - 48)) l d

below-valued : (m n : ℕ) → n < m → valued 0 (decimal n) ≡ n
below-valued zero n l = absurd (not-suc-le-zero l)
below-valued (suc m) n l = go (le-or-lt 10 n) (below-valued m (n / 10))
  where
    sum : (v n : ℕ) → v ≡ n / 10 → 10 * v + (48 + n % 10 - 48) ≡ n
    sum v n e = omega arith

    go : (10 ≤ n) ⊎ (n < 10) → (n / 10 < m → valued 0 (decimal (n / 10)) ≡ n / 10) → valued 0 (decimal n) ≡ n
    go (inl t) ih =
        ap (valued 0) (decimal-more n t)
        ∙ valued-append 0 (decimal (n / 10)) (48 + n % 10)
        ∙ sum (valued 0 (decimal (n / 10))) n (ih (omega arith))
    go (inr t) ih = ap (valued 0) (decimal-one n t) ∙ unfold valued in omega arith

pub decimal-valued : (n : ℕ) → valued 0 (decimal n) ≡ n
decimal-valued n = below-valued (suc n) n (omega arith)
