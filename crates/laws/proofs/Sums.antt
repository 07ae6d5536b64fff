-- Sums of which no term counts (sum-nil) or one (sum-at); a bit as the sum of two (bit-part). Assumes nothing.
use mathlib.Core.Path.{◌≡◌, refl, sym, ap}
use mathlib.Core.Logic.{⊎_elim}
use mathlib.Core.Bool.{Bool, true, false}
use Prim.Native.Nat.{ℕ, zero, suc, ◌+◌, ◌<◌}
use native.Mathlib.Omega.{arith}
use Rattle.laws.specs.Fold.{bit, fold, sum_to}
use Rattle.laws.proofs.Bools.{at-or-below, clash}

pub sum-nil : (n : ℕ) (f : ℕ → ℕ) → ((i : ℕ) → i < n → f i ≡ 0) → sum_to n f ≡ 0
unfolding fold
sum-nil zero f none = refl
sum-nil (suc n) f none = let a = sum-nil n f (λ i l. none i (omega arith)) in omega (arith, none n (omega arith))

pub sum-at : (n a : ℕ) (f : ℕ → ℕ) → a < n → ((i : ℕ) → i < n → (i ≡ a → ⊥) → f i ≡ 0) → sum_to n f ≡ f a
unfolding fold
sum-at zero a f l other = absurd (omega arith)
sum-at (suc n) a f l other = ⊎_elim here (λ m. there m (sum-at n a f m (λ i b. other i (omega arith)))) (at-or-below a n l)
  where
    here : a ≡ n → sum_to n f + f n ≡ f a
    here e =
        let z = sum-nil n f (λ i m. other i (omega arith) (λ w. omega arith)) in
        let w : f n ≡ f a = ap f (sym e) in
        omega arith

    there : a < n → sum_to n f ≡ f a → sum_to n f + f n ≡ f a
    there m ih = omega (arith, other n (omega arith) (λ w. omega arith))

-- p where q or r, and these never both
pub bit-part : (p q r : Bool) → (q ≡ true → p ≡ true) → (p ≡ true → q ≡ false → r ≡ true) → (r ≡ true → p ≡ true)
    → (r ≡ true → q ≡ false) → bit p ≡ bit q + bit r
bit-part true true true a b c d = absurd (clash refl (d refl))
bit-part true true false a b c d = refl
bit-part true false true a b c d = refl
bit-part true false false a b c d = absurd (clash (b refl refl) refl)
bit-part false true r a b c d = absurd (clash (a refl) refl)
bit-part false false true a b c d = absurd (clash (c refl) refl)
bit-part false false false a b c d = refl
